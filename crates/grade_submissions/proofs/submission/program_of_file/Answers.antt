use Rattle.std.proofs.Common.{◌≡◌, ◌∙◌, ℕ, List, subst}
use Rattle.program_files.specs.Programs.{IsProgramOf}
use Rattle.grade_submissions.specs.Files.{path_in}
use Rattle.grade_submissions.proofs.submission.program_of_file.Goals as goal

pub returns-in-Ok : goal.returns-in-Ok
returns-in-Ok g c =
    let reads = g.D.Disk.reads c.args.disk.now in
    let bytes : List ℕ = c.in_ok-bytes.bytes.items in
    let there : c.as_str.result.now ≡ path_in c.args.folder.now c.args.file.now = c.as_str.ensures.value ∙ c.in_ok-path.ensures in
    let again : c.as_str-2.result.now ≡ path_in c.args.folder.now c.args.file.now = c.as_str-2.ensures.value ∙ c.in_ok-path.ensures in
    record {
      bytes = bytes;
      read = subst (λ (path : List ℕ). reads.bytes path bytes) there c.in_ok-bytes.ensures;
      made = subst (λ (path : List ℕ). IsProgramOf path bytes c.in-Ok.made.program) again c.in-Ok.ensures.made;
    }
