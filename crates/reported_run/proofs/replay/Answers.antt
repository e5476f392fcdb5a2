use Rattle.std.proofs.Common.{List, String, subst}
use Rattle.std.specs.declared.alloc.Global.{Global}
use Rattle.program_files.specs.Programs.{AreProgramsIn}
use Rattle.recorded_runs.proofs.Asked.{replayed}
use Rattle.recorded_runs.proofs.Ends.{says-most}
use Rattle.reported_run.proofs.replay.Goals as goal

pub returns-clause-status : goal.returns-clause-status
returns-clause-status c = says-most c.replay_with.result _ _ _ _ _ _ c.replay_with.ensures

pub returns-clause-says : goal.returns-clause-says
returns-clause-says c =
    let made = c.in_ok-made.made.programs.items in
    let are = subst (λ (paths : List (String Global)). AreProgramsIn paths made) c.as_slice-given.ensures.value c.in_ok-made.ensures.made in
    replayed c.replay_with.result _ _ _ c.in_ok-record.record made c.in_ok-files.files.programs.items _ _
    c.in_ok-record.ensures.cut are c.in_ok-files.ensures.there c.in_ok-files.ensures.programs c.replay_with.ensures
