use Rattle.grade_sheets.proofs.Prelude.{◌≡◌, lines_if, map, string_bytes, take}
use Rattle.grade_sheets.proofs.predictions.chosen_lines.Given as goal

abbrev pub invariant-loop-line : goal.invariant-loop-line
invariant-loop-line l = string_bytes l.lines ≡ lines_if l.words (map (λ line. line.now) (take l.line-index l.list))
