use Rattle.addr_space.proofs.Isolation.{is-isolated}
use Rattle.addr_space.proofs.law_of_isolation.Goals as goal

pub returns : goal.returns
returns c = is-isolated
