use Rattle.std.proofs.Common.{rules}
use Rattle.proc_table.proofs.process.Process.has_pid.Goals as goal

pub returns : goal.returns
returns c = search rules
