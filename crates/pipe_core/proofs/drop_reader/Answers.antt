use Rattle.std.proofs.Common.{arith}
use Rattle.pipe_core.proofs.Changes.{readers_changed}
use Rattle.pipe_core.proofs.drop_reader.Goals as goal

pub returns : goal.returns
returns c = rw (← c.readers-count.ensures.value) (readers_changed _ _ _ _ c.requires.pipe (omega arith) c.write_u64.ensures)
