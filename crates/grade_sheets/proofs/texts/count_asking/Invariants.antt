use Rattle.grade_sheets.proofs.Prelude.{◌≡◌, asks, count_by, map, take}
use Rattle.grade_sheets.proofs.texts.count_asking.Given as goal

abbrev pub invariant-loop-line : goal.invariant-loop-line
invariant-loop-line l = l.found ≡ count_by (asks l.question) (map (λ line. line.now) (take l.line-index l.lines))
