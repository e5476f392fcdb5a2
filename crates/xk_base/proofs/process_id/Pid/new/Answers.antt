use Rattle.std.proofs.Common.{rules}
use Rattle.xk_base.proofs.process_id.Pid.new.Goals as goal

pub returns : goal.returns
returns c = search rules
