use Rattle.std.proofs.Common.{◌≡◌, ◌*◌, ◌≤◌, map, take}
use Rattle.std.specs.Prelude.{sum_by}
use Rattle.uasm_core.specs.Statement.{datum_size}
use Rattle.uasm_core.specs.Views.{datum as datum_seen}
use Rattle.uasm_core.proofs.placing.values_len.Given as goal

abbrev pub invariant-loop-value : goal.invariant-loop-value
invariant-loop-value l = (l.total ≡ sum_by datum_size (map datum_seen (take l.value-index l.values))) × (l.total ≤ 8 * l.value-index)
