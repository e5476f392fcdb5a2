-- A map behind a change at one key: what stands in it, and its keys.
use Rattle.kernel_spec.proofs.Prelude.{[], ℕ, ◌&&◌, ◌++◌, ◌<◌, ◌∙◌, ◌∷◌, ◌≡◌, ap, Bool, cond, entries, entries-from_sorted, entries-insert, entries_sorted, eq-eqb, eq_by_cmp, eqb_tells, false, filter}
use Rattle.kernel_spec.proofs.Prelude.{FinMap, from_sorted, get, get-entries, get-from_sorted, get-remove, inl, inr, insert, is_eq, is_lt, is_some, IsTotalOrder, keys, List, map, nat_cmp}
use Rattle.kernel_spec.proofs.Prelude.{nat_cmp-IsAntisymmetric, nat_cmp_is, nat_cmp_total, nat_eq, None, not, Option, refl, remove, same_map, Some, subst, sym, T, true, unsigned_tied}
use Rattle.std.specs.declared.cmp.Ordering.{Ordering}
use Rattle.std.specs.declared.cmp.Ordering.TheVariants.{Less, Equal, Greater}
use Rattle.std.specs.FinMap.Entries.{find, put, is_sorted, below_all, by_order, where_key, is_sorted-where_key, find-where_key}
pub use Rattle.xk_base.proofs.Maps.{get_at, get_same, get_other, insert-twice, insert_again}

pub first : (a b : Bool) → T (a && b) → T a
first true b p = tt
first false b p = p

pub second : (a b : Bool) → T (a && b) → T b
second true b p = p
second false b p = absurd p

both : (a b : Bool) → T a → T b → T (a && b)
both true b p q = q
both false b p q = p

less : (o : Ordering) → T (is_lt o) → o ≡ Less
less Less p = refl
less Equal p = absurd p
less Greater p = absurd p

module _ {K X : Type 0} {R : K → K → Ordering} (o : IsTotalOrder R) where
  below_less : (x y : K) (es : List (K × X)) → R x y ≡ Less → T (below_all R y es) → T (below_all R x es)
  below_less x y [] p h = tt
  below_less x y (e ∷ es) p h = both _ _ (subst (λ r. T (is_lt r)) (sym (o.trans x y e.0 p (less _ (first _ _ h)))) tt) (below_less x y es p (second _ _ h))

  find_below : (q : K) (es : List (K × X)) → T (below_all R q es) → find R q es ≡ None
  find_below q [] h = refl
  find_below q (e ∷ es) h = ap (λ r. cond (is_eq r) (Some e.1) (find R q es)) (less _ (first _ _ h)) ∙ find_below q es (second _ _ h)

  not_none : (f : Option X) → is_some f ≡ true → f ≡ None → ⊥
  not_none f h e = let no : false ≡ true = sym (ap is_some e) ∙ h in cc

  keys_put : (k : K) (v : X) (es : List (K × X)) → T (is_sorted R es) → is_some (find R k es) ≡ true → map (λ e. e.0) (put R k v es) ≡ map (λ e. e.0) es
  keys_put k v [] s h = cc
  keys_put k v (e ∷ es) s h =
      elim (R k e.0) as (λ r. R k e.0 ≡ r → is_some (cond (is_eq r) (Some e.1) (find R k es)) ≡ true
      → map (λ e. e.0) (by_order r ((k, v) ∷ e ∷ es) ((e.0, v) ∷ es) (e ∷ put R k v es)) ≡ map (λ e. e.0) (e ∷ es)) [
        | Less ↦ λ p g. absurd (not_none (find R k es) g (find_below k es (below_less k e.0 es p (first _ _ s))))
        | Equal ↦ λ p g. refl
        | Greater ↦ λ p g. ap (λ ks. e.0 ∷ ks) (keys_put k v es (second _ _ s) g)
      ] refl h

  pub keys_insert : (m : FinMap R X) (k : K) (v : X) → is_some (get m k) ≡ true → keys (insert m k v) ≡ keys m
  keys_insert m k v h = ap (map (λ e. e.0)) (entries-insert o m k v) ∙ keys_put k v (entries m) (entries_sorted m) (ap is_some (sym (get-entries m k)) ∙ h)

-- ---- a key above all others, and a key that goes

greater : (k e : ℕ) → e < k → nat_cmp k e ≡ Greater
greater k e h = sym (nat_cmp_is k e Greater h)

find_some : (b : Bool) {X : Type 0} (v : X) (o : Option X) → is_some o ≡ true → is_some (cond b (Some v) o) ≡ true
find_some true v o h = refl
find_some false v o h = h

module _ {X : Type 0} (k : ℕ) (v : X) where
  keys_put_end : (es : List (ℕ × X)) → ((q : ℕ) → is_some (find nat_cmp q es) ≡ true → q < k) → map (λ e. e.0) (put nat_cmp k v es) ≡ map (λ e. e.0) es ++ k ∷ []
  keys_put_end [] h = refl
  keys_put_end (e ∷ es) h =
      let low : e.0 < k = h e.0 (ap (λ b. is_some (cond b (Some e.1) (find nat_cmp e.0 es))) (unsigned_tied e.0 e.0 ∙ eq-eqb e.0 e.0 refl)) in
      ap (λ (o : Ordering). map (λ e. e.0) (by_order o ((k, v) ∷ e ∷ es) ((e.0, v) ∷ es) (e ∷ put nat_cmp k v es))) (greater k e.0 low)
      ∙ ap (λ ks. e.0 ∷ ks) (keys_put_end es (λ q g. h q (find_some (eq_by_cmp nat_cmp q e.0) e.1 (find nat_cmp q es) g)))

pub keys_push : {X : Type 0} (m : FinMap nat_cmp X) (k : ℕ) (v : X) → ((q : ℕ) → is_some (get m q) ≡ true → q < k) → keys (insert m k v) ≡ keys m ++ k ∷ []
keys_push m k v h = ap (map (λ e. e.0)) (entries-insert nat_cmp_total m k v) ∙ keys_put_end k v (entries m) (λ q g. h q (ap is_some (get-entries m q) ∙ g))

-- ---- a key is removed

module _ {X : Type 0} (m : FinMap nat_cmp X) (k : ℕ) where
  alike_key : (q x : ℕ) → nat_cmp q x ≡ Equal → not (eq_by_cmp nat_cmp k x) ≡ not (eq_by_cmp nat_cmp k q)
  alike_key q x e = ap (λ (n : ℕ). not (eq_by_cmp nat_cmp k n)) (sym (nat_cmp-IsAntisymmetric q x e))

  turned : {A : Type 0} (b : Bool) (x y : A) → cond (not b) x y ≡ cond b y x
  turned true x y = refl
  turned false x y = refl

  flipped : (q : ℕ) → eq_by_cmp nat_cmp k q ≡ eq_by_cmp nat_cmp q k
  flipped q = unsigned_tied k q ∙ elim (eqb_tells k q) [
    | inl h ↦ h.0 ∙ sym (unsigned_tied q k ∙ eq-eqb q k (sym h.1))
    | inr h ↦ h.0 ∙ sym (unsigned_tied q k ∙ elim (eqb_tells q k) [ inl g ↦ absurd (h.1 (sym g.1)) | inr g ↦ g.0 ])
  ]

  rest_sorted : T (is_sorted nat_cmp (where_key nat_cmp (λ x. not (eq_by_cmp nat_cmp k x)) (entries m)))
  rest_sorted = is_sorted-where_key nat_cmp (λ x. not (eq_by_cmp nat_cmp k x)) (entries m) (entries_sorted m)

  same_rest : remove m k ≡ from_sorted (where_key nat_cmp (λ x. not (eq_by_cmp nat_cmp k x)) (entries m))
  same_rest = same_map nat_cmp_total nat_cmp-IsAntisymmetric _ _ (λ q.
      get-remove nat_cmp_total m k q
      ∙ sym (get-from_sorted nat_cmp (where_key nat_cmp (λ x. not (eq_by_cmp nat_cmp k x)) (entries m)) q rest_sorted
      ∙ find-where_key nat_cmp (λ x. not (eq_by_cmp nat_cmp k x)) q (alike_key q) (entries m)
      ∙ turned (eq_by_cmp nat_cmp k q) (find nat_cmp q (entries m)) None
      ∙ ap (λ b. cond b None (find nat_cmp q (entries m))) (flipped q)
      ∙ ap (λ o. cond (eq_by_cmp nat_cmp q k) None o) (sym (get-entries m q))))

  pub entries-remove : entries (remove m k) ≡ where_key nat_cmp (λ x. not (eq_by_cmp nat_cmp k x)) (entries m)
  entries-remove = ap entries same_rest ∙ entries-from_sorted nat_cmp (where_key nat_cmp (λ x. not (eq_by_cmp nat_cmp k x)) (entries m)) rest_sorted

  keys_where : (es : List (ℕ × X)) → map (λ e. e.0) (where_key nat_cmp (λ x. not (eq_by_cmp nat_cmp k x)) es) ≡ filter (λ x. not (nat_eq x k)) (map (λ e. e.0) es)
  keys_where [] = refl
  keys_where (e ∷ es) = by (eq_by_cmp nat_cmp k e.0) ∙ (λ i. cond (not ((flipped e.0 ∙ unsigned_tied e.0 k) i)) (e.0 ∷ keys_where es i) (keys_where es i))
    where
      by : (b : Bool) → map (λ e. e.0) (cond (not b) (e ∷ where_key nat_cmp (λ x. not (eq_by_cmp nat_cmp k x)) es)
          (where_key nat_cmp (λ x. not (eq_by_cmp nat_cmp k x)) es)) ≡ cond (not b)
          (e.0 ∷ map (λ e. e.0) (where_key nat_cmp (λ x. not (eq_by_cmp nat_cmp k x)) es))
          (map (λ e. e.0) (where_key nat_cmp (λ x. not (eq_by_cmp nat_cmp k x)) es))
      by true = refl
      by false = refl

  pub keys_remove : keys (remove m k) ≡ filter (λ x. not (nat_eq x k)) (keys m)
  keys_remove = ap (map (λ e. e.0)) entries-remove ∙ keys_where (entries m)

pub get_without : {X : Type 0} (m : FinMap nat_cmp X) (k q : ℕ) → get (remove m k) q ≡ cond (nat_eq q k) None (get m q)
get_without m k q = get-remove nat_cmp_total m k q ∙ ap (λ b. cond b None (get m q)) (unsigned_tied q k)
