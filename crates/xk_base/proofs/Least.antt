-- The least number below a bound that passes a test.
use Rattle.std.proofs.Common.{◌≡◌, ℕ, zero, suc, ◌+◌, ◌-◌, ◌<◌, Bool, true, false, Option, Some, None, inl, inr, refl, ap, ◌∙◌, subst, arith, add-one, add-zero, add-suc}
use Rattle.std.proofs.lemmas.Bool.{cases_eq}
use Rattle.xk_base.specs.Words.{least_below, or_here}

-- none is found below the next number, where none is found and the test fails here
pub least_below-next : (test : ℕ → Bool) (n : ℕ) → least_below test n ≡ None → test n ≡ false → least_below test (n + 1) ≡ None
unfolding least_below
least_below-next test n none fails =
    let e : least_below test (suc n) ≡ None = ap (λ o. or_here o (test n) n) none ∙ ap (λ b. or_here None b n) fails in
    rw add-one e

least_below-past : (test : ℕ → Bool) (i k : ℕ) → least_below test i ≡ None → test i ≡ true → least_below test (suc (i + k)) ≡ Some i
unfolding least_below
least_below-past test i zero none passes = rw add-zero (ap (λ o. or_here o (test i) i) none ∙ ap (λ b. or_here None b i) passes)
least_below-past test i (suc k) none passes = rw add-suc (ap (λ o. or_here o (test (suc (i + k))) (suc (i + k))) (least_below-past test i k none passes))

-- the first number that passes is the least below each greater bound
pub least_below-found : (test : ℕ → Bool) (n i : ℕ) → least_below test i ≡ None → test i ≡ true → i < n → least_below test n ≡ Some i
least_below-found test n i none passes lt =
    let e : suc (i + (n - i - 1)) ≡ n = omega arith in
    subst (λ m. least_below test m ≡ Some i) e (least_below-past test i (n - i - 1) none passes)

-- where none is found, each number below the bound fails
pub none_below : (test : ℕ → Bool) (n : ℕ) → least_below test n ≡ None → (k : ℕ) → k < n → test k ≡ false
unfolding least_below
none_below test zero e k lt = absurd (omega (arith, lt))
none_below test (suc n) e k lt = last (least_below test n) refl (test n) refl e (λ none below. none_below test n none k below)
  where
    last : (o : Option ℕ) → least_below test n ≡ o → (b : Bool) → test n ≡ b → or_here o b n ≡ None → (least_below test n ≡ None → k < n → test k ≡ false) → test k ≡ false
    last (Some i) is b t e rest = absurd (cc)
    last None is true t e rest = absurd (cc)
    last None is false t e rest = elim (cases_eq k n) [
      | inl same ↦ ap test same ∙ t
      | inr other ↦ rest is (omega (arith, lt, other))
    ]

-- no number is below 0
pub least_below-zero : (test : ℕ → Bool) → least_below test 0 ≡ None
unfolding least_below
least_below-zero test = refl
