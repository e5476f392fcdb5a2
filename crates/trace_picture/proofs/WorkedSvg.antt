-- Worked cases of the text of a picture.
use Rattle.std.proofs.Common.{◌≡◌, ℕ, [], ◌∷◌, ◌++◌, refl, codes}
use Rattle.trace_picture.specs.Names.{letter_text}
use Rattle.trace_picture.specs.Svg.{Letter, across, byte_place, byte_text, letters, letters_shown, room_behind, row_middle, row_top}
use Rattle.trace_picture.specs.declared.note.Note.TheVariants.{Tick, Key, Sent}
use Rattle.trace_picture.specs.declared.picture.Console.TheVariants.{SentBytes, TypedBytes}

-- half of four events ends in the middle of 1,200 pixels that begin at 90
in_the_middle : across 90 4 2 ≡ 69000
in_the_middle = refl

-- the third row, and the middle of its bar
third_row : row_top 2 ≡ 84
third_row = refl

third_bar : row_middle 2 ≡ 90
third_bar = refl

-- a byte that has no room at its event stands right of the one before it
right_of_it : byte_place 0 4 0 700 ≡ 700
right_of_it = refl

-- what has a meaning in XML is an entity
an_entity : letter_text 38 ≡ codes "&amp;"
an_entity = refl

-- ---- bytes of the console

abbrev letter : (event byte : ℕ) → Letter
letter event byte = record { event = event; byte = byte }

-- each line has its own bytes, with the numbers of their events
sent_bytes : letters SentBytes 0 (Sent 65 ∷ Tick ∷ Key 66 ∷ Sent 67 ∷ []) ≡ record { event = 0; byte = 65 } ∷ record { event = 3; byte = 67 } ∷ []
sent_bytes = refl

typed_bytes : letters TypedBytes 0 (Sent 65 ∷ Tick ∷ Key 66 ∷ []) ≡ record { event = 2; byte = 66 } ∷ []
typed_bytes = refl

-- the second letter stands right of the first, if its event is too near; else at its event
near : room_behind 0 1200 (letter 0 65 ∷ letter 1 66 ∷ []) ≡ 1400
near = refl

far : room_behind 0 4 (letter 0 65 ∷ letter 1 66 ∷ []) ≡ 30700
far = refl

both : letters_shown 0 1200 50 (letter 0 65 ∷ letter 1 66 ∷ []) ≡ byte_text 0 50 65 ++ (byte_text 700 50 66 ++ [])
both = refl

-- behind the right edge no letter is shown
beyond_the_edge : letters_shown 0 4 50 (letter 4 65 ∷ letter 4 66 ∷ []) ≡ byte_text 120000 50 65 ++ []
beyond_the_edge = refl
