use Rattle.gdb_target.proofs.Planned.{first-of-first}
use Rattle.gdb_target.proofs.laws.first_of_first.Goals as goal

pub returns : goal.returns
returns c = first-of-first
