use Rattle.kcall_core.proofs.Prelude.{state_of}
use Rattle.kcall_core.proofs.kernel.Kernel.free_frames.Goals as goal

pub returns : goal.returns
unfolding state_of
returns c hart = c.free.ensures
