use Rattle.pipe_core.proofs.Changes.{made}
use Rattle.pipe_core.proofs.make.Goals as goal

pub returns : goal.returns
returns c = made _ _ _ _ _ _ c.requires c.write_u64.ensures c.write_u64-2.ensures c.write_u64-3.ensures c.write_u64-4.ensures
