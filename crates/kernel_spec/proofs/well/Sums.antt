-- Sums over all processes.
use Rattle.kernel_spec.proofs.Prelude.{ℕ, ◌+◌, ◌<◌, ◌≡◌, ◌≢◌, ◌≤◌, ap, arith, eqb_tells, inl, inr, refl, suc, sum_below, sym, zero}

pub sum_same : (n : ℕ) (f g : ℕ → ℕ) → ((p : ℕ) → p < n → f p ≡ g p) → sum_below n f ≡ sum_below n g
unfolding sum_below
sum_same zero f g h = refl
sum_same (suc n) f g h = λ i. sum_same n f g (λ p b. h p (omega arith)) i + h n (omega arith) i

-- where f and g differ at k alone
pub sum_change : (n k : ℕ) (f g : ℕ → ℕ) → k < n → ((p : ℕ) → p ≢ k → f p ≡ g p) → sum_below n f + g k ≡ sum_below n g + f k
unfolding sum_below
sum_change zero k f g below h = absurd (omega arith)
sum_change (suc n) k f g below h =
    let a : ℕ = sum_below n f in let b : ℕ = sum_below n g in let fk : ℕ = f k in let gk : ℕ = g k in let fn : ℕ = f n in let gn : ℕ = g n in
    elim (eqb_tells k n) [
      | inl e ↦
          let same : k ≡ n = e.1 in
          let rest : a ≡ b = sum_same n f g (λ p q. h p (λ r. let x : p ≡ k = r in omega arith)) in
          let x : fk ≡ fn = ap f same in let y : gk ≡ gn = ap g same in
          let goal : a + fn + gk ≡ b + gn + fk = omega arith in goal
      | inr e ↦
          let apart : k ≢ n = e.1 in
          let rest : a + gk ≡ b + fk = sum_change n k f g (omega arith) h in
          let x : fn ≡ gn = h n (λ r. apart (sym r)) in
          let goal : a + fn + gk ≡ b + gn + fk = omega arith in goal
    ]

pub sum_term : (n k : ℕ) (f : ℕ → ℕ) → k < n → f k ≤ sum_below n f
unfolding sum_below
sum_term zero k f below = absurd (omega arith)
sum_term (suc n) k f below =
    let a : ℕ = sum_below n f in let fk : ℕ = f k in let fn : ℕ = f n in
    elim (eqb_tells k n) [
      | inl e ↦ let same : fk ≡ fn = ap f e.1 in let goal : fk ≤ a + fn = omega arith in goal
      | inr e ↦ let apart : k ≢ n = e.1 in let r : fk ≤ a = sum_term n k f (omega arith) in let goal : fk ≤ a + fn = omega arith in goal
    ]

pub sum_terms : (n k j : ℕ) (f : ℕ → ℕ) → k < n → j < n → k ≢ j → f k + f j ≤ sum_below n f
unfolding sum_below
sum_terms zero k j f below_k below_j apart = absurd (omega arith)
sum_terms (suc n) k j f below_k below_j apart =
    let a : ℕ = sum_below n f in let fk : ℕ = f k in let fj : ℕ = f j in let fn : ℕ = f n in
    elim (eqb_tells k n) [
      | inl e ↦
          let same : k ≡ n = e.1 in let x : fk ≡ fn = ap f same in
          let r : fj ≤ a = sum_term n j f (omega arith) in
          let goal : fk + fj ≤ a + fn = omega arith in goal
      | inr e ↦
          let other : k ≢ n = e.1 in
          elim (eqb_tells j n) [
            | inl q ↦ let x : fj ≡ fn = ap f q.1 in let r : fk ≤ a = sum_term n k f (omega arith) in let goal : fk + fj ≤ a + fn = omega arith in goal
            | inr q ↦ let more : j ≢ n = q.1 in let r : fk + fj ≤ a = sum_terms n k j f (omega arith) (omega arith) apart in let goal : fk + fj ≤ a + fn = omega arith in goal
          ]
    ]
