use Rattle.kcall_core.proofs.Prelude.{rules}
use Rattle.kcall_core.proofs.kernel.kill.asked_pid.Goals as goal

pub returns : goal.returns
returns c = search rules
