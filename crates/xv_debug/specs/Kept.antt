-- The marks that are kept, and what words do to them.
use Rattle.std.specs.Prelude.{◌≡◌, ℕ, ◌+◌, ◌-◌, ◌^◌, ◌==◌, ◌&&◌, ◌||◌, Bool, true, false, not, nat_lt, if◌then◌else◌, List, [], ◌∷◌, ◌++◌, length, map, filter, min, take, Option, None, Some}
use Rattle.std.specs.List.{list_any}
use Rattle.xv_session.specs.declared.running.Running.{Running}
use Rattle.debug_words.specs.declared.vocabulary.Mark.{Mark}
use Rattle.debug_words.specs.declared.vocabulary.TheConstants.{MARKS_MOST}
use Rattle.debug_words.specs.declared.vocabulary.Word.{Word}
use Rattle.debug_words.specs.declared.vocabulary.Word.TheVariants as words
use Rattle.xv_debug.specs.motion.Marks.{is_at_mark}
use Rattle.xv_debug.specs.declared.kept.Kept.{Kept}
use Rattle.xv_debug.specs.declared.kept.KeptMarks.{KeptMarks}

-- it isn't for once, or the process that runs doesn't stand there
abbrev pub is_left : Running → Kept → Bool
is_left r k = not k.once || not (is_at_mark r k.mark)

-- those that are kept any longer
abbrev pub left_at : Running → List Kept → List Kept
left_at r marks = filter (is_left r) marks

-- the next mark: its number is one more than that of the last that was made
abbrev pub next_number : (made : ℕ) → ℕ
next_number made = min (made + 1) (2 ^ 32 - 1)

abbrev pub next_mark : (made : ℕ) → Mark → (once : Bool) → Kept
next_mark made mark once = record { number = next_number made; mark = mark; once = once }

-- new marks, each with the number after that of the one before; so many were made before them
abbrev pub numbered_from : (made : ℕ) → List Mark → (once : Bool) → List Kept
numbered_from made [] once = []
numbered_from made (m ∷ ms) once = next_mark made m once ∷ numbered_from (next_number made) ms once

-- the marks after more are kept: as many as there is room for
abbrev pub kept_after : KeptMarks → List Mark → (once : Bool) → List Kept
kept_after marks new once = take MARKS_MOST (marks.kept.items ++ numbered_from marks.made new once)

-- it has this number
abbrev pub is_numbered : (number : ℕ) → Kept → Bool
is_numbered number k = k.number == number

-- there is one of this number, or one at all
abbrev pub has : Option ℕ → List Kept → Bool
has None marks = not (length marks == 0)
has (Some number) marks = list_any (is_numbered number) marks

-- those that are left without the one of this number, or without any
abbrev pub left_without : Option ℕ → List Kept → List Kept
left_without None marks = []
left_without (Some number) marks = filter (λ k. not (is_numbered number k)) marks

-- without their numbers
abbrev pub marks_of : List Kept → List Mark
marks_of marks = map (λ k. k.mark) marks

-- ---- what words do to them

-- a word that keeps one, forgets some, or lists them
abbrev pub marks_after : Word → KeptMarks → List Kept
marks_after (words.Mark new once) marks = kept_after marks new.items once
marks_after (words.Delete number) marks = left_without number marks.kept.items
marks_after _ marks = marks.kept.items

-- the word that goes on to marks: those for once that are met are forgotten after it
abbrev pub left_after : Running → Word → List Kept → List Kept
left_after r (words.ToMark own) marks = left_at r marks
left_after r _ marks = marks

-- it lets the machine go on
abbrev pub goes_on : Word → Bool
goes_on words.Continue = true
goes_on _ = false

-- there is no mark and somebody else lets the machine go on, or it is another word
abbrev pub goes_to_none : (alone : Bool) → List Kept → Word → Bool
goes_to_none alone marks word = ((length marks == 0) && not alone) || not (goes_on word)

-- it goes on to these marks
abbrev pub IsToMarks : List Mark → Word → Type 0
IsToMarks marks (words.ToMark own) = own.items ≡ marks
IsToMarks marks _ = ⊥
