-- The least number below a bound that passes a test, and where none does.
use Rattle.kernel_spec.proofs.Prelude.{ℕ, ◌<◌, ◌∙◌, ◌≡◌, ◌⊎◌, ap, arith, Bool, false, inl, inr, least_below, least_below-zero, None, none_below, Option, or_here, refl, Some, suc, sym, true, zero}

step : (n : ℕ) (P : ℕ → Bool) → least_below P (suc n) ≡ or_here (least_below P n) (P n) n
unfolding least_below
step n P = refl

picked : (o : Option ℕ) (b : Bool) (n k : ℕ) → or_here o b n ≡ Some k → (o ≡ Some k) ⊎ ((b ≡ true) × (n ≡ k))
picked None true n k e = inr (refl, (cc))
picked None false n k e = let no : ⊥ = cc in absurd no
picked (Some j) b n k e = inl e

pub least_passes : (n : ℕ) (P : ℕ → Bool) (k : ℕ) → least_below P n ≡ Some k → (P k ≡ true) × (k < n)
least_passes zero P k e = let f : None ≡ Some k = sym (least_below-zero P) ∙ e in let no : ⊥ = cc in absurd no
least_passes (suc n) P k e =
    elim (picked (least_below P n) (P n) n k (sym (step n P) ∙ e)) [
      | inl h ↦ let r = least_passes n P k h in (r.0, let b : k < n = r.1 in omega arith)
      | inr h ↦ (sym (ap P h.1) ∙ h.0, let b : n ≡ k = h.1 in omega arith)
    ]

pub least_congr : (n : ℕ) (P Q : ℕ → Bool) → ((d : ℕ) → d < n → P d ≡ Q d) → least_below P n ≡ least_below Q n
least_congr zero P Q same = least_below-zero P ∙ sym (least_below-zero Q)
least_congr (suc n) P Q same =
    step n P
    ∙ ap (λ (o : Option ℕ). or_here o (P n) n) (least_congr n P Q (λ d below. same d (omega arith)))
    ∙ ap (λ (b : Bool). or_here (least_below Q n) b n) (same n (omega arith))
    ∙ sym (step n Q)

-- nothing below the least passes
pub least_least : (n : ℕ) (P : ℕ → Bool) (k : ℕ) → least_below P n ≡ Some k → (d : ℕ) → d < k → P d ≡ false
least_least zero P k e d below = let f : None ≡ Some k = sym (least_below-zero P) ∙ e in let no : ⊥ = cc in absurd no
least_least (suc n) P k e d below = by_pick (λ f. least_least n P k f d below) (least_below P n) refl (sym (step n P) ∙ e)
  where
    by_pick : (least_below P n ≡ Some k → P d ≡ false) → (o : Option ℕ) → least_below P n ≡ o → or_here o (P n) n ≡ Some k → P d ≡ false
    by_pick again (Some j) f g = let same : j ≡ k = cc in again (f ∙ ap Some same)
    by_pick again None f g = elim (picked None (P n) n k g) [
      | inl h ↦ let no : ⊥ = cc in absurd no
      | inr h ↦ let same : n ≡ k = h.1 in none_below P n f d (omega arith)
    ]
