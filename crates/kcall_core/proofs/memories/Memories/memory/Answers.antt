use Rattle.kcall_core.proofs.memory.Changes.{there-held, stood}
use Rattle.kcall_core.proofs.memories.Memories.memory.Goals as goal

pub memory_in-requires : goal.memory_in-requires
memory_in-requires c = there-held _ _ c.requires.there

pub returns : goal.returns
returns c = stood c.requires.sound c.requires.there c.memory_in.ensures
