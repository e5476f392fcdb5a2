use Rattle.std.proofs.Common.{◌≡◌, take}
use Rattle.std.specs.Prelude.{string_bytes}
use Rattle.grade_submissions.specs.Files.{no_file_text}
use Rattle.grade_submissions.proofs.submission.no_file.Given as goal

abbrev pub invariant-loop-place : goal.invariant-loop-place
invariant-loop-place l = string_bytes l.why ≡ no_file_text (take l.place l.files)
