use Rattle.grade_sheets.proofs.Prelude.{◌≡◌, flat_map, map, take, with_end}
use Rattle.grade_sheets.proofs.predictions.joined.Given as goal

abbrev pub invariant-loop-line : goal.invariant-loop-line
invariant-loop-line l = l.text.items ≡ flat_map with_end (map (λ line. line.now) (take l.line-index l.list))
