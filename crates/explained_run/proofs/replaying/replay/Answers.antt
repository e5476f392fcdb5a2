use Rattle.std.proofs.Common.{List, String, subst}
use Rattle.std.specs.declared.alloc.Global.{Global}
use Rattle.xk_base.specs.declared.program.Program.{Program}
use Rattle.program_files.specs.Programs.{AreProgramsIn}
use Rattle.xv_record.specs.Chosen.{AreThere}
use Rattle.recorded_runs.proofs.Asked.{replayed}
use Rattle.recorded_runs.proofs.Ends.{says-most}
use Rattle.explained_run.proofs.Ends.{replay-said}
use Rattle.explained_run.proofs.replaying.replay.Goals as goal

pub returns-clause-status : goal.returns-clause-status
returns-clause-status c =
    says-most c.replay_with-ended.result.status _ _ _ _ _ _ (replay-said c.args.choice c.replay_with-ended.result.status _ _ _ _ _ _ _ c.replay_with-ended.ensures)

pub returns-clause-says : goal.returns-clause-says
returns-clause-says c =
    let record_is = c.in_ok-record.record in
    let made = c.in_ok-made.made.programs.items in
    let are = subst (λ (paths : List (String Global)). AreProgramsIn paths made) c.as_slice.ensures.value c.in_ok-made.ensures.made in
    let there = subst (λ (programs : List Program). AreThere programs record_is.programs.items) c.as_slice-3.ensures.value c.in_ok-chosen.ensures.there in
    replayed c.replay_with-ended.result.status _ _ _ record_is made c.in_ok-chosen.chosen.items _ _ c.in_ok-record.ensures.cut are there c.in_ok-chosen.ensures.programs
    (replay-said c.args.choice c.replay_with-ended.result.status _ _ _ _ _ _ _ c.replay_with-ended.ensures)
