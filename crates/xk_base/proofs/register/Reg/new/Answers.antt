use Rattle.std.proofs.Common.{rules}
use Rattle.xk_base.proofs.register.Reg.new.Goals as goal

pub returns : goal.returns
returns c = search rules
