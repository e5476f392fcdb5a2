use Rattle.std.proofs.Common.{arith}
use Rattle.pipe_core.proofs.Changes.{writers_changed}
use Rattle.pipe_core.proofs.drop_writer.Goals as goal

pub returns : goal.returns
returns c = rw (← c.writers-count.ensures.value) (writers_changed _ _ _ _ c.requires.pipe (omega arith) c.write_u64.ensures)
