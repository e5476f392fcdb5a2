-- Worked cases of what a line of a trace tells.
use Rattle.std.specs.Prelude.{◌≡◌, ◌-◌, ◌^◌, [], ◌∷◌, codes, map, negsuc, None, pos, refl, Some}
use Rattle.trace_picture.specs.declared.note.Note.TheVariants.{Turn, Step, Call, Block, Exit, Fault, Idle, Tick, Key, Sent}
use Rattle.trace_picture.specs.Notes.{note_of_line, signed, unsigned, words}
use Rattle.trace_picture.specs.Remarks.{remark_of}

-- each kind of line
of_the_clock : map note_of_line (codes "idle" ∷ codes "tick" ∷ []) ≡ Some Idle ∷ Some Tick ∷ []
of_the_clock = refl

of_a_process : map note_of_line (codes "turn 3" ∷ codes "step 3" ∷ []) ≡ Some (Turn 3) ∷ Some (Step 3) ∷ []
of_a_process = refl

-- a call with its number and its answer, which may be below 0
of_a_call : note_of_line (codes "call 3 16 -1") ≡ Some (Call 3 (pos 16) (negsuc 0))
of_a_call = refl

of_a_sleep : note_of_line (codes "block 3 5") ≡ Some (Block 3 (pos 5))
of_a_sleep = refl

of_an_end : map note_of_line (codes "exit 3 -1" ∷ codes "fault 3 13" ∷ []) ≡ Some (Exit 3 (negsuc 0)) ∷ Some (Fault 3 13) ∷ []
of_an_end = refl

-- a key's byte, and not how many bytes its echo has
of_the_console : map note_of_line (codes "key 13 1" ∷ codes "sent 104" ∷ []) ≡ Some (Key 13) ∷ Some (Sent 104) ∷ []
of_the_console = refl

-- these show nothing, or are no lines of a trace
shows_nothing : map note_of_line (codes "sent none" ∷ codes "halted" ∷ codes "xv: init exited with 1" ∷ []) ≡ None ∷ None ∷ None ∷ []
shows_nothing = refl

-- a word too few, one too many, and a number that is none
no_note : map note_of_line (codes "turn" ∷ codes "turn 3 4" ∷ codes "turn  3" ∷ codes "turn x" ∷ codes "key 13" ∷ codes "fault 3 -1" ∷ []) ≡ None ∷ None ∷ None ∷ None ∷ None ∷ None ∷ []
no_note = refl

-- ---- words and numbers

two_blanks : words (codes "a  b") ≡ codes "a" ∷ [] ∷ codes "b" ∷ []
two_blanks = refl

-- a byte has 8 bits
a_byte : map (unsigned 8) (codes "255" ∷ codes "256" ∷ codes "-1" ∷ []) ≡ Some 255 ∷ None ∷ None ∷ []
a_byte = refl

-- a number with a sign in 32 bits
with_a_sign : map (signed 32) (codes "2147483647" ∷ codes "2147483648" ∷ codes "-2147483648" ∷ codes "-2147483649" ∷ []) ≡ Some (pos (2 ^ 31 - 1)) ∷ None ∷ Some (negsuc (2 ^ 31 - 1)) ∷ None ∷ []
with_a_sign = refl

-- ---- what tells more than a trace

a_name : remark_of (codes "name") (codes "name 3 wc") ≡ Some (3, codes "wc")
a_name = refl

-- the text goes up to the end of the line
with_blanks : remark_of (codes "waits") (codes "waits 3 read on descriptor 0") ≡ Some (3, codes "read on descriptor 0")
with_blanks = refl

no_remark : map (remark_of (codes "name")) (codes "name wc 3" ∷ codes "name 3" ∷ codes "waits 3 wc" ∷ codes "xname 3 wc" ∷ []) ≡ None ∷ None ∷ None ∷ None ∷ []
no_remark = refl
