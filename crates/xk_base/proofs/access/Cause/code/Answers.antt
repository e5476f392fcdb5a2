use Rattle.std.proofs.Common.{rules}
use Rattle.xk_base.proofs.access.Cause.code.Goals as goal

pub returns-in-StorePageFault : goal.returns-in-StorePageFault
returns-in-StorePageFault c = search rules
