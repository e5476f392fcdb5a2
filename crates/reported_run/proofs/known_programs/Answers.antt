use Rattle.std.proofs.Common.{List, String, subst}
use Rattle.std.specs.declared.alloc.Global.{Global}
use Rattle.program_files.specs.Programs.{AreProgramsIn}
use Rattle.reported_run.proofs.known_programs.Goals as goal

pub returns-clause-programs : goal.returns-clause-programs
returns-clause-programs c = subst (λ (paths : List (String Global)). AreProgramsIn paths c.in_ok-made.made.programs.items) c.as_slice-files.ensures.value c.in_ok-made.ensures.made
