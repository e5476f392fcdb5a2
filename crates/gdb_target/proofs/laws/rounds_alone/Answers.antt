use Rattle.gdb_target.proofs.Planned.{rounds-alone}
use Rattle.gdb_target.proofs.laws.rounds_alone.Goals as goal

pub returns : goal.returns
returns c = rounds-alone
