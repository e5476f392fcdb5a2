use Rattle.std.proofs.Common.{rules}
use Rattle.xv_machine.proofs.machine.Machine.trace_len.Goals as goal

pub returns : goal.returns
returns c = search rules
