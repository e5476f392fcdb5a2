-- The rows of processes, as more is done.
use Rattle.std.proofs.Common.{◌≡◌, ◌∙◌, ℕ, zero, suc, ◌+◌, ◌<◌, Bool, true, false, List, [], ◌∷◌, ◌++◌, length, replicate}
use Rattle.std.proofs.Common.{Option, None, Some, cond, ◌⊎◌, inl, inr, Result, Ok, Err, OnOk, arith, refl, sym, ap, subst}
use Rattle.std.specs.Prelude.{◌^◌, nat_eq, if◌then◌else◌, slice_get, slice_set, position, is_ok}
use Rattle.std.specs.List.{position_from}
use Rattle.std.specs.Option.{option_or}
use Rattle.std.proofs.lemmas.Bool.Decides.{eqb_tells}
use Rattle.std.proofs.lemmas.Iterator.Adapters.{position_from-zero}
use Rattle.explained_run.specs.Chosen.{is_process}
use Rattle.explained_run.specs.Counts.{added, both, counted, row, sum_of, tallied, with_more}
use Rattle.explained_run.specs.declared.choice.Choice.{Choice}
use Rattle.explained_run.specs.declared.counts.Count.{Count}

-- ---- the first row of a process

tells : (b : Bool) → (b ≡ true) ⊎ (b ≡ false)
tells true = inl refl
tells false = inr refl

abbrev pub of : (p : ℕ) → Count → Bool
of p count = nat_eq count.pid p

-- The row is put where it is
pub record IsPut (more : Count) (counts : List Count) (place : ℕ) : Type 0 where
  pub within : place < length counts
  pub is : slice_set counts place (with_more (slice_get counts place) more) ≡ added counts more

found-from : (more : Count) (from k : ℕ) (counts : List Count) → position_from (of more.pid) from counts ≡ Some k → (j : ℕ) × (k ≡ from + j) × IsPut more counts j
found-from more from k [] e = cc
found-from more from k (c ∷ cs) e = elim (tells (of more.pid c)) [
  | inl is ↦
      let here : Some from ≡ Some k = subst (λ (b : Bool). cond b (Some from) (position_from (of more.pid) (from + 1) cs) ≡ Some k) is e in
      let same : from ≡ k = cc in
      (0, omega (arith, same), record { within = omega arith; is = sym (ap (λ (b : Bool). if b then both c more ∷ cs else c ∷ added cs more) is) })
  | inr is ↦
      let there : position_from (of more.pid) (from + 1) cs ≡ Some k = subst (λ (b : Bool). cond b (Some from) (position_from (of more.pid) (from + 1) cs) ≡ Some k) is e in
      let h = found-from more (from + 1) k cs there in (
        suc h.0,
        omega (arith, h.1),
        record {
          within = omega (arith, h.2.within);
          is = ap (λ (xs : List Count). c ∷ xs) h.2.is ∙ sym (ap (λ (b : Bool). if b then both c more ∷ cs else c ∷ added cs more) is);
        },
      )
]

missing-from : (more : Count) (from : ℕ) (counts : List Count) → position_from (of more.pid) from counts ≡ None → counts ++ more ∷ [] ≡ added counts more
missing-from more from [] e = refl
missing-from more from (c ∷ cs) e = elim (tells (of more.pid c)) [
  | inl is ↦
      let here : Some from ≡ None = subst (λ (b : Bool). cond b (Some from) (position_from (of more.pid) (from + 1) cs) ≡ None) is e in
      let bad : ⊥ = cc in absurd bad
  | inr is ↦
      let there : position_from (of more.pid) (from + 1) cs ≡ None = subst (λ (b : Bool). cond b (Some from) (position_from (of more.pid) (from + 1) cs) ≡ None) is e in
      ap (λ (xs : List Count). c ∷ xs) (missing-from more (from + 1) cs there) ∙ sym (ap (λ (b : Bool). if b then both c more ∷ cs else c ∷ added cs more) is)
]

pub found : (more : Count) (place : ℕ) (counts : List Count) → position (λ (c : Count). nat_eq c.pid more.pid) counts ≡ Some place → IsPut more counts place
found more place counts e =
    let h = found-from more 0 place counts (sym (position_from-zero (of more.pid) counts) ∙ e) in
    let same : h.0 ≡ place = omega (arith, h.1) in
    subst (λ (n : ℕ). IsPut more counts n) same h.2

pub missing : (more : Count) (counts : List Count) → position (λ (c : Count). nat_eq c.pid more.pid) counts ≡ None → counts ++ more ∷ [] ≡ added counts more
missing more counts e = missing-from more 0 counts (sym (position_from-zero (of more.pid) counts) ∙ e)

-- ---- sums

sums-join : (x y z : ℕ) → sum_of (sum_of x y) z ≡ sum_of x (sum_of y z)
sums-join x y z = omega arith

option-or-joins : {A : Type 0} (a b c : Option A) → option_or a (option_or b c) ≡ option_or (option_or a b) c
option-or-joins None b c = refl
option-or-joins (Some x) b c = refl

-- a row with more, and with more again
rows-join : (c a b : Count) → both (both c a) b ≡ both c (both a b)
rows-join c a b = λ i. row c.pid (option-or-joins b.program a.program c.program i) (sums-join c.calls a.calls b.calls i) (sums-join c.failed a.failed b.failed i)
    (sums-join c.instructions a.instructions b.instructions i)

-- ---- more, and more again of the same process

added-again : (a b : Count) (counts : List Count) → b.pid ≡ a.pid → added (added counts a) b ≡ added counts (both a b)
added-again a b [] same =
    ap (λ (t : Bool). if t then both a b ∷ [] else a ∷ b ∷ [])
    (ap (λ (p : ℕ). nat_eq a.pid p) same ∙ elim (eqb_tells a.pid a.pid) [ inl is ↦ is.0 | inr other ↦ absurd (other.1 refl) ])
added-again a b (c ∷ cs) same = elim (tells (nat_eq c.pid a.pid)) [
  | inl is ↦
      ap (λ (t : Bool). added (if t then both c a ∷ cs else c ∷ added cs a) b) is
      ∙ ap (λ (t : Bool). if t then both (both c a) b ∷ cs else both c a ∷ added cs b) (ap (λ (p : ℕ). nat_eq c.pid p) same ∙ is)
      ∙ ap (λ (x : Count). x ∷ cs) (rows-join c a b)
      ∙ sym (ap (λ (t : Bool). if t then both c (both a b) ∷ cs else c ∷ added cs (both a b)) is)
  | inr is ↦
      ap (λ (t : Bool). added (if t then both c a ∷ cs else c ∷ added cs a) b) is
      ∙ ap (λ (t : Bool). if t then both c b ∷ added cs a else c ∷ added (added cs a) b) (ap (λ (p : ℕ). nat_eq c.pid p) same ∙ is)
      ∙ ap (λ (xs : List Count). c ∷ xs) (added-again a b cs same)
      ∙ sym (ap (λ (t : Bool). if t then both c (both a b) ∷ cs else c ∷ added cs (both a b)) is)
]

counted-again : (choice : Choice) (a b : Count) (counts : List Count) → b.pid ≡ a.pid → counted choice (counted choice counts a) b ≡ counted choice counts (both a b)
counted-again choice a b counts same = by (is_process choice.pid a.pid) refl
  where
    by : (t : Bool) → is_process choice.pid a.pid ≡ t → counted choice (counted choice counts a) b ≡ counted choice counts (both a b)
    by true is =
        ap (λ (t : Bool). counted choice (if t then added counts a else counts) b) is
        ∙ ap (λ (t : Bool). if t then added (added counts a) b else added counts a) (ap (λ (p : ℕ). is_process choice.pid p) same ∙ is)
        ∙ added-again a b counts same
        ∙ sym (ap (λ (t : Bool). if t then added counts (both a b) else counts) is)
    by false is =
        ap (λ (t : Bool). counted choice (if t then added counts a else counts) b) is
        ∙ ap (λ (t : Bool). if t then added counts b else counts) (ap (λ (p : ℕ). is_process choice.pid p) same ∙ is)
        ∙ sym (ap (λ (t : Bool). if t then added counts (both a b) else counts) is)

-- ---- one thing after another

pub tallied-join : (choice : Choice) (counts xs ys : List Count) → tallied choice counts (xs ++ ys) ≡ tallied choice (tallied choice counts xs) ys
tallied-join choice counts [] ys = refl
tallied-join choice counts (x ∷ xs) ys = tallied-join choice (counted choice counts x) xs ys

pub option-or-self : (o : Option ℕ) → option_or o o ≡ o
option-or-self None = refl
option-or-self (Some x) = refl

one-row : (place : Option ℕ) (p n : ℕ) → suc n < 2 ^ 64 → both (row p place 0 0 1) (row p place 0 0 n) ≡ row p place 0 0 (suc n)
one-row place p n small = λ i. row p (option-or-self place i) 0 0 (sum i)
  where
    sum : sum_of 1 n ≡ suc n
    sum = omega (arith, small)

-- so many instructions at once are as many one by one
pub instructions-tallied : (choice : Choice) (counts : List Count) (p : ℕ) (place : Option ℕ) (made : ℕ) → 0 < made → made < 2 ^ 64
    → counted choice counts (row p place 0 0 made) ≡ tallied choice counts (replicate made (row p place 0 0 1))
instructions-tallied choice counts p place zero some small = absurd (omega (arith, some))
instructions-tallied choice counts p place (suc zero) some small = refl
instructions-tallied choice counts p place (suc (suc n)) some small =
    sym (ap (counted choice counts) (one-row place p (suc n) small))
    ∙ sym (counted-again choice (row p place 0 0 1) (row p place 0 0 (suc n)) counts refl)
    ∙ instructions-tallied choice (counted choice counts (row p place 0 0 1)) p place (suc n) (omega arith) (omega (arith, small))

-- ---- where a row is put

pub pushed-if : {T E : Type 0} (r : Result T E) (new some all same : List Count) → new ≡ (if is_ok r then all else some) → all ≡ same → OnOk r (new ≡ same)
pushed-if (Ok t) new some all same is whole = is ∙ whole
pushed-if (Err e) new some all same is whole = tt
