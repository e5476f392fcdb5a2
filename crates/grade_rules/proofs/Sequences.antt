-- Notes that are compared one by one with patterns.
use Rattle.std.proofs.Common.{◌≡◌, ℕ, ◌+◌, ◌<◌, Bool, true, false, List, [], ◌∷◌, ◌++◌, length, drop, take, refl, arith, append-nil}
use Rattle.std.specs.List.{filter}
use Rattle.std.proofs.lemmas.List.{at_drop_more, drop_more, take_more}
use Rattle.std.proofs.lemmas.List.Elements.{filter_more}
use Rattle.grade_rules.specs.declared.note.Note.{Note}
use Rattle.grade_rules.specs.declared.numbers.Numbers.TheVariants.{Any}
use Rattle.grade_rules.specs.declared.pattern.Pattern.{Pattern}
use Rattle.grade_rules.specs.declared.pattern.Pattern.TheVariants.{Turn}
use Rattle.grade_rules.specs.declared.note.Note.TheVariants as note
use Rattle.grade_rules.specs.Patterns.{fits}
use Rattle.grade_rules.specs.Rules.{are_these, note_at, step_at}

-- a pattern for which no note is left
pub one_less : (wanted : List Pattern) (done : ℕ) → done < length wanted → are_these (drop done wanted) [] ≡ false
one_less wanted done within = at_drop_more (λ (ws : List Pattern). are_these ws []) wanted done (Turn Any) within

-- a pattern more and a note more, which it fits
these_more : (ps : List Pattern) (ns : List Note) (p : Pattern) (n : Note) → are_these ps ns ≡ true → fits p n ≡ true → are_these (ps ++ p ∷ []) (ns ++ n ∷ []) ≡ true
these_more [] [] p n these fit = grind (arith, fit)
these_more [] (m ∷ ns) p n these fit = absurd (cc)
these_more (q ∷ ps) [] p n these fit = absurd (cc)
these_more (q ∷ ps) (m ∷ ns) p n these fit = grind (arith, these, fit, these_more ps ns p n)

-- the next note is the next that is wanted
pub one_more : (wanted : List Pattern) (notes : List Note) (meant : Note → Bool) (done place : ℕ) → done < length wanted → place < length notes
    → are_these (take done wanted) (filter meant (take place notes)) ≡ true → meant (note_at notes place) ≡ true → fits (step_at wanted done) (note_at notes place) ≡ true
    → are_these (take (done + 1) wanted) (filter meant (take (place + 1) notes)) ≡ true
one_more wanted notes meant done place left within these is fit =
    rw (take_more wanted done (Turn Any) left, filter_more meant notes place (note.Turn 0) within, is)
    (these_more (take done wanted) (filter meant (take place notes)) (step_at wanted done) (note_at notes place) these fit)

-- the next note isn't meant
pub one_beside : (wanted : List Pattern) (notes : List Note) (meant : Note → Bool) (done place : ℕ) → place < length notes
    → are_these (take done wanted) (filter meant (take place notes)) ≡ true → meant (note_at notes place) ≡ false
    → are_these (take done wanted) (filter meant (take (place + 1) notes)) ≡ true
one_beside wanted notes meant done place within these is = rw (filter_more meant notes place (note.Turn 0) within, is, append-nil) these

-- ---- what is left

-- the next note is the next that is wanted
pub left_more : (wanted : List Pattern) (notes : List Note) (meant : Note → Bool) (done place : ℕ) → done < length wanted → place < length notes
    → meant (note_at notes place) ≡ true → fits (step_at wanted done) (note_at notes place) ≡ true
    → are_these (drop done wanted) (filter meant (drop place notes)) ≡ are_these (drop (done + 1) wanted) (filter meant (drop (place + 1) notes))
left_more wanted notes meant done place left within is fit =
    rw (drop_more wanted done (Turn Any) left, drop_more notes place (note.Turn 0) within, is, fit) refl

-- the next note isn't meant
pub left_beside : (wanted : List Pattern) (notes : List Note) (meant : Note → Bool) (done place : ℕ) → place < length notes → meant (note_at notes place) ≡ false
    → are_these (drop done wanted) (filter meant (drop place notes)) ≡ are_these (drop done wanted) (filter meant (drop (place + 1) notes))
left_beside wanted notes meant done place within is = rw (drop_more notes place (note.Turn 0) within, is) refl
