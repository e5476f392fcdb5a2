-- A map by numbers behind a change at one key: what stands in it.
use Rattle.std.proofs.Common.{◌≡◌, ◌≢◌, ℕ, cond, Some, inl, inr, refl, ap, sym, ◌∙◌}
use Rattle.std.specs.Prelude.{nat_eq}
use Rattle.std.specs.Ordering.{nat_cmp}
use Rattle.std.specs.Cmp.{nat_cmp_total, unsigned_tied}
use Rattle.std.specs.FinMap.{FinMap, get, insert, get-insert, same_map, nat_cmp-IsAntisymmetric}
use Rattle.std.proofs.lemmas.Bool.{cases_eq, eq-eqb, ne_eqb}

pub get_at : {X : Type 0} (m : FinMap nat_cmp X) (k : ℕ) (v : X) (q : ℕ) → get (insert m k v) q ≡ cond (nat_eq q k) (Some v) (get m q)
get_at m k v q = get-insert nat_cmp_total m k v q ∙ ap (λ b. cond b (Some v) (get m q)) (unsigned_tied q k)

pub get_here : {X : Type 0} (m : FinMap nat_cmp X) (k : ℕ) (v : X) (q : ℕ) → q ≡ k → get (insert m k v) q ≡ Some v
get_here m k v q same = get_at m k v q ∙ ap (λ b. cond b (Some v) (get m q)) (eq-eqb q k same)

pub get_same : {X : Type 0} (m : FinMap nat_cmp X) (k : ℕ) (v : X) → get (insert m k v) k ≡ Some v
get_same m k v = get_at m k v k ∙ ap (λ b. cond b (Some v) (get m k)) (eq-eqb k k refl)

pub get_other : {X : Type 0} (m : FinMap nat_cmp X) (k : ℕ) (v : X) (q : ℕ) → q ≢ k → get (insert m k v) q ≡ get m q
get_other m k v q apart = get_at m k v q ∙ ap (λ b. cond b (Some v) (get m q)) (ne_eqb q k apart)

-- what is put in twice stands as it was put in last
pub insert-twice : {X : Type 0} (m : FinMap nat_cmp X) (k : ℕ) (x y : X) → insert (insert m k x) k y ≡ insert m k y
insert-twice m k x y = same_map nat_cmp_total nat_cmp-IsAntisymmetric (insert (insert m k x) k y) (insert m k y) (λ q. elim (cases_eq q k) [
  | inl e ↦ get_here (insert m k x) k y q e ∙ sym (get_here m k y q e)
  | inr apart ↦ get_other (insert m k x) k y q apart ∙ get_other m k x q apart ∙ sym (get_other m k y q apart)
])

-- what is put in where it stands changes nothing
pub insert_again : {X : Type 0} (m : FinMap nat_cmp X) (k : ℕ) (x : X) → get m k ≡ Some x → insert m k x ≡ m
insert_again m k x is = same_map nat_cmp_total nat_cmp-IsAntisymmetric (insert m k x) m (λ q. elim (cases_eq q k) [
  | inl e ↦ get_here m k x q e ∙ sym (ap (get m) e ∙ is)
  | inr apart ↦ get_other m k x q apart
])
