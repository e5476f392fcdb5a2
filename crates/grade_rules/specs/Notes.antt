-- A note as a line of a trace, without its end. It doesn't tell what a call was given.
use Rattle.std.specs.Prelude.{ℕ, List, ◌++◌, codes}
use Rattle.std.specs.Fmt.{decimal, signed_decimal}
use Rattle.grade_rules.specs.declared.note.Note.{Note}
use Rattle.grade_rules.specs.declared.note.Note.TheVariants.{Turn, Called, Blocked, Exited, Faulted}

abbrev pub note_text : Note → List ℕ
note_text (Turn pid) = codes "turn " ++ decimal pid
note_text (Called pid number value given) = codes "call " ++ decimal pid ++ codes " " ++ signed_decimal number ++ codes " " ++ signed_decimal value
note_text (Blocked pid number given) = codes "block " ++ decimal pid ++ codes " " ++ signed_decimal number
note_text (Exited pid status) = codes "exit " ++ decimal pid ++ codes " " ++ signed_decimal status
note_text (Faulted pid cause) = codes "fault " ++ decimal pid ++ codes " " ++ decimal cause
