use Rattle.std.proofs.Common.{List, subst}
use Rattle.xk_base.specs.declared.program.Program.{Program}
use Rattle.xv_record.specs.Chosen.{AreThere}
use Rattle.recorded_runs.proofs.files.recorded_files.Goals as goal

pub returns-clause-there : goal.returns-clause-there
returns-clause-there c = subst (λ (programs : List Program). AreThere programs c.args.kept.now.programs.items) c.as_slice-3.ensures.value c.in_ok-recorded_programs.ensures.there
