use Rattle.std.proofs.Common.{List, String, subst}
use Rattle.std.specs.declared.alloc.Global.{Global}
use Rattle.program_files.specs.Programs.{AreProgramsIn}
use Rattle.run_work.proofs.Ended.{files-run, says-run}
use Rattle.explained_run.proofs.Ends.{run-said}
use Rattle.explained_run.proofs.running.run.Goals as goal

pub returns-clause-status : goal.returns-clause-status
returns-clause-status c = says-run c.run_with-ended.result.status _ _ _ _ _ (run-said c.args.choice c.run_with-ended.result.status _ _ _ _ _ _ c.run_with-ended.ensures)

pub returns-clause-says : goal.returns-clause-says
returns-clause-says c =
    let made = c.in_ok-made.made.programs.items in
    let are = subst (λ (paths : List (String Global)). AreProgramsIn paths made) c.as_slice.ensures.value c.in_ok-made.ensures.made in
    files-run c.run_with-ended.result.status _ _ _ made _ _ are (run-said c.args.choice c.run_with-ended.result.status _ _ _ _ _ _ c.run_with-ended.ensures)
