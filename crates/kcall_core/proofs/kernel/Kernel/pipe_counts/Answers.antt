use Rattle.kcall_core.proofs.Prelude.{state_of}
use Rattle.kcall_core.proofs.kernel.Kernel.pipe_counts.Goals as goal

pub returns : goal.returns
unfolding state_of
returns c = λ hart. c.pipe_counts.ensures
