use Rattle.grade_sheets.proofs.Prelude.{◌≡◌, flat_map, if_said, map, take}
use Rattle.grade_sheets.proofs.predictions.said_among.Given as goal

abbrev pub invariant-loop-line : goal.invariant-loop-line
invariant-loop-line l = map (λ line. line.now) l.said.items ≡ flat_map if_said (map (λ line. line.now) (take l.line-index l.list))
