use Rattle.std.proofs.Common.{◌≡◌, map, drop, length}
use Rattle.uasm_core.specs.Views.{seen}
use Rattle.uasm_core.specs.Views.{places_of}
use Rattle.uasm_core.specs.Written.{one_by_one, with_line, all_placed, label_place, end_of}
use Rattle.std.specs.List.{flat_map}
use Rattle.uasm_core.specs.LineTable.{code_of}
use Rattle.uasm_core.specs.Places.{start}
use Rattle.uasm_core.proofs.placing.place_all.Given as goal

abbrev pub invariant-loop-index : goal.invariant-loop-index
invariant-loop-index l = record {
  lines : one_by_one with_line (map seen l.found.items) (map (λ b. b.now) (drop l.index l.lines)) ≡ all_placed (map (λ b. b.now) l.lines);
  count : length l.found.items ≡ l.index;
  labels : places_of l.labels ≡ label_place (map seen l.found.items);
  ends : l.end ≡ end_of (map seen l.found.items) start;
  code : l.code.items ≡ flat_map code_of (map seen l.found.items);
}
