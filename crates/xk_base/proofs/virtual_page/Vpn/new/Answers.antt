use Rattle.std.proofs.Common.{rules}
use Rattle.xk_base.proofs.virtual_page.Vpn.new.Goals as goal

pub returns : goal.returns
returns c = search rules
