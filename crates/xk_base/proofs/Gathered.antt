-- What a gathered map gives, and when two are one.
use Rattle.std.proofs.Common.{◌≡◌, ◌≢◌, ℕ, zero, suc, true, false, cond, ltb, Option, Some, None, inl, inr, refl, sym, ap, ◌∙◌, arith, ◌<◌}
use Rattle.std.proofs.lemmas.Bool.{cases_lt, cases_eq, lt-ltb, le-ltb, eq-eqb, ne_eqb}
use Rattle.std.specs.Ordering.{nat_cmp, eq_by_cmp}
use Rattle.std.specs.FinMap.{FinMap, get, get-empty, get-insert, same_map, nat_cmp-IsAntisymmetric}
use Rattle.std.specs.Cmp.{nat_cmp_total, unsigned_tied}
use Rattle.xk_base.specs.Gathered.{gathered, insert_some}

pub tie-yes : (a b : ℕ) → a ≡ b → eq_by_cmp nat_cmp a b ≡ true
tie-yes a b e = unsigned_tied a b ∙ eq-eqb a b e

pub tie-no : (a b : ℕ) → a ≢ b → eq_by_cmp nat_cmp a b ≡ false
tie-no a b e = unsigned_tied a b ∙ ne_eqb a b e

-- two memories in which the pages of a space are alike
over : {X : Type 0} (f : ℕ → Option X) (n v : ℕ) → n ≢ v → cond (ltb v n) (f v) None ≡ cond (ltb v (suc n)) (f v) None
over f n v ne = elim (cases_lt v n) [
  | inl lt ↦ ap (λ b. cond b (f v) None) (lt-ltb v n lt ∙ sym (lt-ltb v (suc n) (omega arith)))
  | inr ge ↦ ap (λ b. cond b (f v) None) (le-ltb v n ge ∙ sym (le-ltb v (suc n) (omega (arith, ne))))
]

GetsBelow : {X : Type 0} → (ℕ → Option X) → ℕ → ℕ → FinMap nat_cmp X → Type 0
GetsBelow f n v m = get m v ≡ cond (ltb v n) (f v) None

gathered-step : {X : Type 0} (f : ℕ → Option X) (n v : ℕ) (m : FinMap nat_cmp X) → GetsBelow f n v m → (o : Option X) → f n ≡ o → get (insert_some m n o) v ≡ cond (ltb v (suc n)) (f v) None
unfolding GetsBelow
gathered-step f n v m low None is =
    elim (cases_eq n v) [
      | inl e ↦ low ∙ ap (λ b. cond b (f v) None) (le-ltb v n (omega arith)) ∙ sym is ∙ ap f e ∙ sym (ap (λ b. cond b (f v) None) (lt-ltb v (suc n) (omega arith)))
      | inr ne ↦ low ∙ over f n v ne
    ]
gathered-step f n v m low (Some p) is =
    get-insert nat_cmp_total m n p v ∙ (elim (cases_eq v n) [
      | inl e ↦ ap (λ b. cond b (Some p) (get m v)) (tie-yes v n e) ∙ sym is ∙ ap f (sym e) ∙ sym (ap (λ b. cond b (f v) None) (lt-ltb v (suc n) (omega arith)))
      | inr ne ↦ ap (λ b. cond b (Some p) (get m v)) (tie-no v n ne) ∙ low ∙ over f n v (λ e. ne (sym e))
    ])

pub gathered-get : {X : Type 0} (f : ℕ → Option X) (n v : ℕ) → get (gathered f n) v ≡ cond (ltb v n) (f v) None
unfolding gathered GetsBelow
gathered-get f zero v = get-empty nat_cmp v ∙ sym (ap (λ b. cond b (f v) None) (le-ltb v 0 (omega arith)))
gathered-get f (suc n) v = gathered-step f n v (gathered f n) (gathered-get f n v) (f n) refl

pub gathered-some : {X : Type 0} (f : ℕ → Option X) (n v : ℕ) (x : X) → v < n → f v ≡ Some x → get (gathered f n) v ≡ Some x
gathered-some f n v x low is = gathered-get f n v ∙ ap (λ b. cond b (f v) None) (lt-ltb v n low) ∙ is

pub same_pages : {X : Type 0} (m n : FinMap nat_cmp X) → ((v : ℕ) → get m v ≡ get n v) → m ≡ n
same_pages m n h = same_map nat_cmp_total nat_cmp-IsAntisymmetric m n h

pub get-insert_some : {X : Type 0} (m : FinMap nat_cmp X) (k : ℕ) (o : Option X) (v : ℕ) → (o ≡ None → get m k ≡ None)
    → (v ≡ k → get (insert_some m k o) v ≡ o) × (v ≢ k → get (insert_some m k o) v ≡ get m v)
get-insert_some m k None v h = (λ e. ap (get m) e ∙ h refl, λ ne. refl)
get-insert_some m k (Some p) v h = (
  λ e. get-insert nat_cmp_total m k p v ∙ ap (λ b. cond b (Some p) (get m v)) (tie-yes v k e),
  λ ne. get-insert nat_cmp_total m k p v ∙ ap (λ b. cond b (Some p) (get m v)) (tie-no v k ne),
)
