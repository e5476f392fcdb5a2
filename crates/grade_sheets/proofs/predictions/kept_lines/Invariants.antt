use Rattle.grade_sheets.proofs.Prelude.{◌≡◌, lines_if, map, string_bytes, take}
use Rattle.grade_rules.specs.Notes.{note_text}
use Rattle.grade_sheets.proofs.predictions.kept_lines.Given as goal

abbrev pub invariant-loop-note : goal.invariant-loop-note
invariant-loop-note l = string_bytes l.lines ≡ lines_if l.words (map note_text (take l.note-index l.notes))
