use Rattle.std.proofs.Common.{rules}
use Rattle.proc_table.proofs.process.Process.end.Goals as goal

pub returns : goal.returns
returns c = search rules
