use Rattle.std.proofs.Common.{arith}
use Rattle.std.proofs.lemmas.Grind.{common_steps}
use Rattle.file_table.proofs.descriptors.Descriptors.get.Goals as goal

pub returns : goal.returns
returns c = grind (arith, common_steps)
