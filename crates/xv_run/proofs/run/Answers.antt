use Rattle.std.proofs.Common.{List, String, subst}
use Rattle.std.specs.declared.alloc.Global.{Global}
use Rattle.program_files.specs.Programs.{AreProgramsIn}
use Rattle.xv_run.proofs.run.Goals as goal

pub returns-in-Ok : goal.returns-in-Ok
returns-in-Ok c =
    let made = c.in-Ok.made.programs.items in
    λ _. (made, subst (λ (paths : List (String Global)). AreProgramsIn paths made) c.as_slice.ensures.value c.in-Ok.ensures.made, (_, _, c.run_with.ensures))

pub returns-in-Err : goal.returns-in-Err
returns-in-Err c = λ other. absurd (other c.close.ensures.is)
