use Rattle.std.proofs.Common.{rules}
use Rattle.proc_table.proofs.table.Table.status.Goals as goal

pub returns : goal.returns
returns c = search rules
