use Rattle.std.proofs.Common.{◌≡◌, map, drop}
use Rattle.uasm_core.specs.Views.{places_of}
use Rattle.uasm_core.specs.Statement.{datum_bytes, values_bytes, put_behind}
use Rattle.uasm_core.specs.Views.{datum as datum_seen}
use Rattle.uasm_core.specs.Written.{addresses}
use Rattle.uasm_core.proofs.Each.{put_each}
use Rattle.uasm_core.proofs.spelling.put_values.Given as goal

abbrev pub invariant-loop-value : goal.invariant-loop-value
invariant-loop-value l =
    put_each (datum_bytes (addresses l.text_len (places_of l.labels))) l.out.items (map datum_seen (drop l.value-index l.values))
    ≡ put_behind l.initial.out.items (values_bytes (addresses l.text_len (places_of l.labels)) (map datum_seen l.values))
