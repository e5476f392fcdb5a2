use Rattle.addr_space.proofs.Prelude.{rules}
use Rattle.addr_space.proofs.Space.grow_lazily.Goals as goal

pub returns-clause-size : goal.returns-clause-size
returns-clause-size c = search rules

pub returns-clause-image : goal.returns-clause-image
returns-clause-image c = search rules
