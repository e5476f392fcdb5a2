use Rattle.gdb_target.proofs.Planned.{more-of-one-kind}
use Rattle.gdb_target.proofs.laws.more_of_one_kind.Goals as goal

pub returns : goal.returns
returns c = more-of-one-kind
