use Rattle.std.proofs.Common.{rules}
use Rattle.xv_session.proofs.looking.fault_of_run.Goals as goal

pub returns : goal.returns
returns c = search rules
