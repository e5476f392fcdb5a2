use Rattle.kcall_core.proofs.Prelude.{rules}
use Rattle.kcall_core.proofs.kernel.Kernel.save_child.Goals as goal

pub returns-clause-saved : goal.returns-clause-saved
returns-clause-saved c = search rules
