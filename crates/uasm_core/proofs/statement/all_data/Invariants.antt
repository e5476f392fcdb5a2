use Rattle.std.proofs.Common.{◌≡◌, map, drop}
use Rattle.uasm_core.specs.Statement.{datum as datum_in, each}
use Rattle.uasm_core.specs.Views.{given as given_seen, datum as datum_seen}
use Rattle.uasm_core.proofs.Each.{each_onto}
use Rattle.uasm_core.proofs.statement.all_data.Given as goal

abbrev pub invariant-loop-value : goal.invariant-loop-value
invariant-loop-value l = each_onto (datum_in l.width) (map datum_seen l.found.items) (map given_seen (drop l.value-index l.values)) ≡ each (datum_in l.width) (map given_seen l.values)
