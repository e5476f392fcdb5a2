use Rattle.std.proofs.Common.{◌≡◌, ◌++◌, take, map}
use Rattle.kernel_spec.specs.views.State.{named_file}
use Rattle.grade_submissions.specs.Files.{text_file}
use Rattle.grade_submissions.proofs.submission.add_texts.Given as goal

abbrev pub invariant-loop-text : goal.invariant-loop-text
invariant-loop-text l = map named_file l.programs.items ≡ map named_file l.fn.programs.items ++ map text_file (take l.text-index l.texts)
