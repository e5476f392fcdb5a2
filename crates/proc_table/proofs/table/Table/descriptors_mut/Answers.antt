use Rattle.std.proofs.Common.{arith}
use Rattle.std.proofs.lemmas.Grind.{common_steps}
use Rattle.proc_table.proofs.table.Table.descriptors_mut.Goals as goal

pub returns : goal.returns
returns c = grind (arith, common_steps)
