use Rattle.gdb_target.proofs.Planned.{record-is-first}
use Rattle.gdb_target.proofs.laws.record_is_first.Goals as goal

pub returns : goal.returns
returns c = record-is-first
