use Rattle.kcall_core.proofs.Prelude.{free_of}
use Rattle.kcall_core.proofs.memories.Memories.free.Goals as goal

pub returns : goal.returns
unfolding free_of
returns c = c.free.ensures c.args.self.now.ram c.requires.good
