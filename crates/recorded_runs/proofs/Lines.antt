-- The lines of a record, and the first of their events.
use Rattle.std.proofs.Common.{◌≡◌, ◌∙◌, ℕ, ◌+◌, ◌<◌, List, ◌++◌, length, take, drop, get_or, sym, ap}
use Rattle.std.proofs.lemmas.Grind.{flat_map-append}
use Rattle.std.proofs.lemmas.List.{take-append-drop}
use Rattle.kernel_spec.specs.runs.Run.{Event}
use Rattle.xv_record.specs.declared.line.Line.{Line}
use Rattle.xv_live.specs.Plays.{events_of_line, events_of_lines}
use Rattle.xv_live.proofs.Lines.{lines-more}

-- the first lines, one more, and those that follow
pub lines-around : (xs : List Line) (i : ℕ) (d : Line) → i < length xs
    → (events_of_lines (take i xs) ++ events_of_line (get_or xs i d)) ++ events_of_lines (drop (i + 1) xs) ≡ events_of_lines xs
lines-around xs i d below =
    ap (λ (es : List Event). es ++ events_of_lines (drop (i + 1) xs)) (sym (lines-more xs i d below))
    ∙ (sym (flat_map-append events_of_line (take (i + 1) xs) (drop (i + 1) xs)) ∙ ap events_of_lines (take-append-drop (i + 1) xs))
