use Rattle.std.proofs.Common.{rules}
use Rattle.xk_base.proofs.access.Perm.rights.Goals as goal

pub returns-clause-value : goal.returns-clause-value
returns-clause-value c = search rules
