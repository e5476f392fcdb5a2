use Rattle.std.proofs.Common.{rules}
use Rattle.xk_base.proofs.descriptor.Fd.new.Goals as goal

pub returns : goal.returns
returns c = search rules
