-- Worked cases of the marks that are kept.
use Rattle.std.proofs.Common.{◌≡◌, [], ◌∷◌, ◌++◌, true, false, None, Some, refl, replicate}
use Rattle.debug_words.specs.declared.vocabulary.Mark.TheVariants.{Store}
use Rattle.arrayvec.specs.ArrayVec.{ArrayVec}
use Rattle.debug_words.specs.declared.vocabulary.Mark.{Mark}
use Rattle.xv_debug.specs.Kept.{has, kept_after, left_without, marks_after, next_mark}
use Rattle.xv_debug.specs.declared.kept.Kept.{Kept}
use Rattle.xv_debug.specs.declared.kept.KeptMarks.{KeptMarks}
use Rattle.debug_words.specs.declared.vocabulary.Word.TheVariants as words

first : Kept
first = record { number = 1; mark = Store 0; once = false }

second : Kept
second = record { number = 2; mark = Store 8; once = true }

third : Kept
third = record { number = 3; mark = Store 16; once = true }

-- the first mark has the number 1
numbered : next_mark 0 (Store 0) false ≡ first
unfolding first
numbered = refl

-- behind those that are there marks are kept, each with its number, and to list them changes none
kept : (marks : KeptMarks) (new : ArrayVec Mark) → marks.made ≡ 1 → marks.kept.items ≡ first ∷ [] → new.items ≡ Store 8 ∷ Store 16 ∷ []
    → marks_after (words.Mark new true) marks ≡ first ∷ second ∷ third ∷ []
unfolding first second third
kept marks new one there asked = rw (one, there, asked) refl

listed : (marks : KeptMarks) → marks_after words.Marks marks ≡ marks.kept.items
listed marks = refl

-- there is room for 16
no_more : (marks : KeptMarks) → marks.kept.items ≡ replicate 15 first → kept_after marks (Store 8 ∷ Store 16 ∷ []) true ≡ replicate 15 first ++ next_mark marks.made (Store 8) true ∷ []
unfolding first
no_more marks there = rw there refl

-- the mark of a number is forgotten, or all are; of no other number there is one
one_left : left_without (Some 1) (first ∷ second ∷ []) ≡ second ∷ []
unfolding first second
one_left = refl

none_left : left_without None (first ∷ second ∷ []) ≡ []
none_left = refl

no_third : has (Some 3) (first ∷ second ∷ []) ≡ false
unfolding first second
no_third = refl
