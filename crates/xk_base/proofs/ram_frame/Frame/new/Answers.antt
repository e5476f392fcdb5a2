use Rattle.std.proofs.Common.{rules}
use Rattle.xk_base.proofs.ram_frame.Frame.new.Goals as goal

pub returns : goal.returns
returns c = search rules
