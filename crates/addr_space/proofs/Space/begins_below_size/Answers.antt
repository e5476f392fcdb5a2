use Rattle.addr_space.proofs.Prelude.{rules}
use Rattle.addr_space.proofs.Space.begins_below_size.Goals as goal

pub returns : goal.returns
returns c = search rules
