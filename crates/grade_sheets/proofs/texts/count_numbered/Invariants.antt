use Rattle.grade_sheets.proofs.Prelude.{◌≡◌, asks_by_number, count_by, map, take}
use Rattle.grade_sheets.proofs.texts.count_numbered.Given as goal

abbrev pub invariant-loop-line : goal.invariant-loop-line
invariant-loop-line l = l.found ≡ count_by asks_by_number (map (λ line. line.now) (take l.line-index l.lines))
