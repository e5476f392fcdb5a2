use Rattle.grade_sheets.proofs.Prelude.{◌≡◌, list_any, map, says, take}
use Rattle.grade_sheets.proofs.texts.has_answer.Given as goal

abbrev pub invariant-loop-line : goal.invariant-loop-line
invariant-loop-line l = l.found ≡ list_any (says l.question l.answer) (map (λ line. line.now) (take l.line-index l.lines))
