use Rattle.std.proofs.Common.{◌+◌, ◌<◌, List, length, take, sym, subst, arith, ℕ}
use Rattle.xk_base.specs.declared.program.Program.{Program}
use Rattle.grade_submissions.specs.Files.{IsFoundIn, AreFoundIn}
use Rattle.grade_submissions.proofs.Collecting.{found_more}
use Rattle.grade_submissions.proofs.submission.programs_of_files.Goals as goal

-- a program more
pub loop-file-preserved : goal.loop-file-preserved
loop-file-preserved g c =
    let reads = g.D.Disk.reads c.args.disk.now in
    let folder = c.args.folder.now in
    let files = c.args.files.now in
    let place = c.loop-file.file-index in
    let within : place < length files = omega (arith, c.loop-file-test.true) in
    subst (λ (ps : List Program). AreFoundIn reads folder (take (place + 1) files) ps) (sym c.in_ok-push.ensures.items)
    (found_more reads folder files c.loop-file.programs.items place c.file-item.result c.in_ok-program_of_file.field-0 within c.file-item.is c.loop-file.invariant
    (subst (λ (name : List ℕ). IsFoundIn reads folder name c.in_ok-program_of_file.field-0) c.as_str.ensures.value c.in_ok-program_of_file.ensures))
