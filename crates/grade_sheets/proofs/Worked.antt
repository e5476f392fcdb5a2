-- Worked cases of the definitions.
use Rattle.grade_sheets.proofs.Prelude.{[], ℕ, ◌+◌, ◌<◌, ◌∷◌, ◌≡◌, ◌≤◌, AreRising, arith, asks, begins_note, codes, false, first_word, if_said, length, lines_if, None, number_in, numbers_in}
use Rattle.grade_sheets.proofs.Prelude.{question_of, refl, refusal_or, says, short_answer, slice_index, Some, String, string_bytes, suc, true, whole_answer, zero}
use Rattle.std.specs.declared.alloc.Global.{Global}
use Rattle.grade_sheets.specs.Blanks.{without_end, without_blanks}
use Rattle.grade_sheets.specs.declared.grade.Standing.TheVariants.{Right, Wrong, Refused}

-- ---- numbers

-- blanks and a plus don't count, and nothing else may stand in the line
a_number : number_in (codes " +12 ") ≡ Some 12
a_number = refl

two_numbers : number_in (codes "1 2") ≡ None
two_numbers = refl

no_digit : number_in (codes "+") ≡ None
no_digit = refl

below_zero : number_in (codes "-1") ≡ None
below_zero = refl

-- the largest, and one that is too large
the_largest : number_in (codes "18446744073709551615") ≡ Some 18446744073709551615
the_largest = refl

too_large : number_in (codes "18446744073709551616") ≡ None
too_large = refl

-- lines without a number alone are passed over, and the last line needs no end
of_lines : numbers_in (codes "7\nup 3\n\n 12\n1") ≡ (7 ∷ 12 ∷ 1 ∷ [])
of_lines = refl

-- each at least 2 above the one before it
rising : (place : ℕ) → place + 1 < 3 → slice_index (1 ∷ 3 ∷ 9 ∷ []) place + 2 ≤ slice_index (1 ∷ 3 ∷ 9 ∷ []) (place + 1)
rising zero within = omega arith
rising (suc zero) within = omega arith
rising (suc (suc place)) within = absurd (omega (arith, within))

they_rise : AreRising 2 (1 ∷ 3 ∷ 9 ∷ [])
they_rise = record { two = omega arith; each = rising }

one_is_low : AreRising 2 (1 ∷ 2 ∷ []) → ⊥
one_is_low they = omega (arith, they.each 0 (omega arith))

one_alone : AreRising 0 (1 ∷ []) → ⊥
one_alone they = omega (arith, they.two)

-- ---- predictions

the_word : first_word (codes "call 1 4 0") ≡ codes "call"
the_word = refl

without_more : first_word (codes "halted") ≡ codes "halted"
without_more = refl

-- no line if no word is asked for
none_asked : lines_if [] (codes "turn 1" ∷ []) ≡ []
none_asked = refl

chosen : (word : String Global) → string_bytes word ≡ codes "turn"
    → lines_if (word ∷ []) (codes "turn 1" ∷ codes "call 1 2 0" ∷ codes "turn 2" ∷ []) ≡ codes "turn 1\nturn 2\n"
chosen word is = rw is refl

a_note : (word : String Global) → string_bytes word ≡ codes "block" → begins_note word ≡ true
a_note word is = rw is refl

no_note : (word : String Global) → string_bytes word ≡ codes "step" → begins_note word ≡ false
no_note word is = rw is refl

-- blanks at the beginning count, and at the end they don't
at_the_end : without_end (codes " a \n\n") ≡ codes " a"
at_the_end = refl

around : without_blanks (codes " a b \n") ≡ codes "a b"
around = refl

-- ---- answers

-- marks around a question don't count, nor do capitals
the_question : question_of (codes "- **Pages** : 55") ≡ codes "Pages"
the_question = refl

in_capitals : asks (codes "pages") (codes "Pages: 5") ≡ true
in_capitals = refl

no_colon : asks (codes "pages") (codes "pages") ≡ false
no_colon = refl

-- an answer may end a sentence, have commas, and have an explanation after it
with_a_dot : whole_answer (codes "516: 511.") ≡ codes "511"
with_a_dot = refl

explained : short_answer (codes "large: 1,023 (one more)") ≡ codes "1023"
explained = refl

negative : short_answer (codes "status: -1, since nobody reads") ≡ codes "-1"
negative = refl

another : says (codes "pages") (codes "55") (codes "pages: 54 or 55") ≡ false
another = refl

-- ---- lines

said_alone : if_said (codes "- Turn 1 ") ≡ codes "Turn 1" ∷ []
said_alone = refl

nothing_said : if_said (codes " * ") ≡ []
nothing_said = refl

-- ---- why there are no points

-- runs that are right are passed over, and one that was made ends the search
refused_first : refusal_or Refused (codes "empty") None ≡ Some (codes "empty")
refused_first = refl

refused_later : refusal_or Right (codes "") (Some (codes "empty")) ≡ Some (codes "empty")
refused_later = refl

wrong_first : refusal_or Wrong (codes "") (Some (codes "empty")) ≡ None
wrong_first = refl
