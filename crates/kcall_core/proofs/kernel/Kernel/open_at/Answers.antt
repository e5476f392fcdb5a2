use Rattle.kcall_core.proofs.Prelude.{rules}
use Rattle.kcall_core.proofs.kernel.Kernel.open_at.Goals as goal

pub returns-in-Program-clause-files : goal.returns-in-Program-clause-files
returns-in-Program-clause-files c = search rules
