-- Marks that are given one by one.
use Rattle.grade_sheets.proofs.Prelude.{[], ℕ, ◌&&◌, ◌++◌, ◌+◌, ◌<◌, ◌∙◌, ◌∷◌, ◌≡◌, ap, AreAnswered, AreEachAnswered, AreMarked, Bool, false, get_or, given_for, has, if◌then◌else◌, IsAnswered}
use Rattle.grade_sheets.proofs.Prelude.{IsMarked, length, List, list_all, list_any, Mark, or_parts, refl, subst, sum_by, sym, take, take_more, true}
use Rattle.grade_sheets.specs.declared.asked.Asked.{Asked}
use Rattle.grade_sheets.specs.declared.asked.Check.{Check}
use Rattle.grade_sheets.specs.declared.judging.Seen.{Seen}

one_more : (asked : List Asked) (seen : Seen) (marks : List Mark) (one : Asked) (mark : Mark) → AreMarked asked seen marks → IsMarked one seen mark
    → AreMarked (asked ++ one ∷ []) seen (marks ++ mark ∷ [])
one_more [] seen [] one mark all here = (here, tt)
one_more [] seen (other ∷ marks) one mark all here = absurd all
one_more (other ∷ asked) seen [] one mark all here = absurd all
one_more (other ∷ asked) seen (its ∷ marks) one mark all here = (all.0, one_more asked seen marks one mark all.1 here)

-- the mark for what stands at a place, behind those for all before it
pub marked_more : (asked : List Asked) (seen : Seen) (marks : List Mark) (place : ℕ) (one : Asked) (mark : Mark) → place < length asked
    → one ≡ get_or asked place one → AreMarked (take place asked) seen marks → IsMarked one seen mark
    → AreMarked (take (place + 1) asked) seen (marks ++ mark ∷ [])
marked_more asked seen marks place one mark within is all here =
    let is_that : take (place + 1) asked ≡ take place asked ++ one ∷ [] = take_more asked place one within ∙ ap (λ (a : Asked). take place asked ++ a ∷ []) (sym is) in
    subst (λ (xs : List Asked). AreMarked xs seen (marks ++ mark ∷ [])) (sym is_that) (one_more (take place asked) seen marks one mark all here)

-- ---- answers that are given one by one

answers_more : (checks : List Check) (seen : Seen) (answers : List Bool) (check : Check) (has : Bool) → AreEachAnswered checks seen answers → IsAnswered check seen has
    → AreEachAnswered (checks ++ check ∷ []) seen (answers ++ has ∷ [])
answers_more [] seen [] check has each here = (here, tt)
answers_more [] seen (other ∷ answers) check has each here = absurd each
answers_more (other ∷ checks) seen [] check has each here = absurd each
answers_more (other ∷ checks) seen (its ∷ answers) check has each here = (each.0, answers_more checks seen answers check has each.1 here)

all_more : (answers : List Bool) (has : Bool) → list_all (λ b. b) (answers ++ has ∷ []) ≡ list_all (λ b. b) answers && has
all_more [] true = refl
all_more [] false = refl
all_more (true ∷ answers) has = all_more answers has
all_more (false ∷ answers) has = refl

-- the answer for what stands at a place, behind those for all before it
pub answered_more : (checks : List Check) (seen : Seen) (so_far : Bool) (place : ℕ) (check : Check) (has : Bool) → place < length checks
    → check ≡ get_or checks place check → AreAnswered (take place checks) seen so_far → IsAnswered check seen has
    → AreAnswered (take (place + 1) checks) seen (so_far && has)
answered_more checks seen so_far place check has within is before here =
    let is_that : take (place + 1) checks ≡ take place checks ++ check ∷ [] = take_more checks place check within ∙ ap (λ (c : Check). take place checks ++ c ∷ []) (sym is) in
    record {
      answers = before.answers ++ has ∷ [];
      each = subst (λ (xs : List Check). AreEachAnswered xs seen (before.answers ++ has ∷ [])) (sym is_that) (answers_more (take place checks) seen before.answers check has before.each here);
      all = ap (λ (b : Bool). b && has) before.all ∙ sym (all_more before.answers has);
    }

-- ---- sums that stop at the largest number of 64 bits

abbrev pub most : ℕ
most = 18446744073709551615

-- marks none of which is for what the run has bring no points
pub none_given : (marks : List Mark) → list_any has marks ≡ false → sum_by given_for marks ≡ 0
none_given [] none = refl
none_given (mark ∷ marks) none =
    let parts = or_parts (has mark) (list_any has marks) none in
    let here : given_for mark ≡ 0 = ap (λ (b : Bool). if b then mark.points else 0) parts.0 in
    rw (here, none_given marks parts.1) refl
