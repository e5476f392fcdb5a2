use Rattle.std.proofs.Common.{arith, rules}
use Rattle.xk_base.specs.declared.limits.TheConstants.{OPEN_FILES}
use Rattle.file_table.proofs.Places.{at_count}
use Rattle.file_table.proofs.table.Files.new.Goals as goal

pub returns-clause-made : goal.returns-clause-made
returns-clause-made c = at_count _ _ c.loop-n.n OPEN_FILES c.loop-n.invariant (omega arith)

pub loop-n-init : goal.loop-n-init
loop-n-init c = search rules
