use Rattle.std.proofs.Common.{◌≡◌, map, drop}
use Rattle.uasm_core.specs.Views.{seen, bytes_in}
use Rattle.uasm_core.specs.Views.{places_of}
use Rattle.uasm_core.specs.Written.{one_by_one, spelled_line, all_spelled, addresses}
use Rattle.uasm_core.proofs.spelling.spell_all.Given as goal

abbrev pub invariant-loop-line : goal.invariant-loop-line
invariant-loop-line l =
    one_by_one (spelled_line (addresses l.text_len (places_of l.labels)) l.text_len) (bytes_in l.out) (map seen (drop l.line-index l.lines))
    ≡ all_spelled (addresses l.text_len (places_of l.labels)) l.text_len (map seen l.lines)
