use Rattle.kcall_core.proofs.Prelude.{rules, state_of}
use Rattle.kcall_core.proofs.kernel.Kernel.programs.Goals as goal

pub returns : goal.returns
unfolding state_of
returns c = λ hart. search rules
