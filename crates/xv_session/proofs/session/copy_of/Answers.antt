use Rattle.std.proofs.Common.{rules}
use Rattle.xv_session.proofs.session.copy_of.Goals as goal

pub returns : goal.returns
returns c = search rules
