use Rattle.std.proofs.Common.{◌≡◌, map, drop}
use Rattle.uasm_core.specs.Statement.{given as given_in, each}
use Rattle.uasm_core.specs.Views.{given as given_seen}
use Rattle.uasm_core.proofs.Each.{each_onto}
use Rattle.uasm_core.proofs.statement.all_given.Given as goal

abbrev pub invariant-loop-operand : goal.invariant-loop-operand
invariant-loop-operand l = each_onto (given_in l.width) (map given_seen l.found.items) (map (λ b. b.now) (drop l.operand-index l.operands)) ≡ each (given_in l.width) (map (λ b. b.now) l.operands)
