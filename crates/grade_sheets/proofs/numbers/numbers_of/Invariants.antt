use Rattle.grade_sheets.proofs.Prelude.{◌≡◌, flat_map, if_number, map, take}
use Rattle.grade_sheets.proofs.numbers.numbers_of.Given as goal

abbrev pub invariant-loop-line : goal.invariant-loop-line
invariant-loop-line l = l.numbers.items ≡ flat_map if_number (map (λ line. line.now) (take l.line-index l.lines))
