-- One slot changes: one pid's entry changes.
use Rattle.kcall_core.proofs.Prelude.{ℕ, ◌<◌, ◌∙◌, ◌≡◌, ◌≢◌, ap, arith, by_pid, cases_eq, cond, eq-eqb, eqb_tells, FinMap, get, get-empty, get_other, get_same, get_without, inl, inr, insert, nat_cmp}
use Rattle.kcall_core.proofs.Prelude.{None, Option, put, refl, remove, same_pages, Some, suc, sym, zero}

gone_same : {X : Type 0} (m : FinMap nat_cmp X) (k : ℕ) → get (remove m k) k ≡ None
gone_same m k = get_without m k k ∙ ap (λ b. cond b None (get m k)) (eq-eqb k k refl)

gone_other : {X : Type 0} (m : FinMap nat_cmp X) (k : ℕ) (q : ℕ) → q ≢ k → get (remove m k) q ≡ get m q
gone_other m k q apart = get_without m k q ∙ elim (eqb_tells q k) [ inl h ↦ absurd (apart h.1) | inr h ↦ ap (λ b. cond b None (get m q)) h.0 ]

module _ {X : Type 0} where
  put-other : (m : FinMap nat_cmp X) (o : Option (ℕ × X)) (q : ℕ) → ((e : ℕ × X) → o ≡ Some e → q ≢ e.0) → get (put m o) q ≡ get m q
  put-other m None q h = refl
  put-other m (Some e) q h = get_other m e.0 e.1 q (h e refl)

  put-here : (m : FinMap nat_cmp X) (o : Option (ℕ × X)) (p : ℕ) (x : X) → o ≡ Some (p, x) → get (put m o) p ≡ Some x
  put-here m o p x is = ap (λ v. get (put m v) p) is ∙ get_same m p x

  -- at pids that aren't the slot's
  elsewhere : (f g : ℕ → Option (ℕ × X)) (n i q : ℕ) → ((j : ℕ) → j < n → j ≢ i → g j ≡ f j) → ((e : ℕ × X) → f i ≡ Some e → q ≢ e.0)
      → ((e : ℕ × X) → g i ≡ Some e → q ≢ e.0) → get (by_pid g n) q ≡ get (by_pid f n) q
  unfolding by_pid
  elsewhere f g zero i q stays was becomes = refl
  elsewhere f g (suc n) i q stays was becomes =
      let ih = elsewhere f g n i q (λ j lt ne. stays j (omega arith) ne) was becomes in
      elim (cases_eq n i) [
        | inl e ↦ put-other (by_pid g n) (g n) q (λ x is. becomes x (sym (ap g e) ∙ is)) ∙ ih ∙ sym (put-other (by_pid f n) (f n) q (λ x is. was x (sym (ap f e) ∙ is)))
        | inr ne ↦ step (f n) (g n) (stays n (omega arith) ne) (by_pid f n) (by_pid g n) ih
      ]
    where
      step : (a b : Option (ℕ × X)) → b ≡ a → (m k : FinMap nat_cmp X) → get k q ≡ get m q → get (put k b) q ≡ get (put m a) q
      step a b e m k h = ap (λ v. get (put k v) q) e ∙ under a
        where
          under : (a : Option (ℕ × X)) → get (put k a) q ≡ get (put m a) q
          under None = h
          under (Some x) = elim (cases_eq q x.0) [
            | inl at ↦ ap (get (insert k x.0 x.1)) at ∙ get_same k x.0 x.1 ∙ sym (ap (get (insert m x.0 x.1)) at ∙ get_same m x.0 x.1)
            | inr apart ↦ get_other k x.0 x.1 q apart ∙ h ∙ sym (get_other m x.0 x.1 q apart)
          ]

  -- at the slot's pid
  pub none : (g : ℕ → Option (ℕ × X)) (n p : ℕ) → ((j : ℕ) (e : ℕ × X) → j < n → g j ≡ Some e → p ≢ e.0) → get (by_pid g n) p ≡ None
  unfolding by_pid
  none g zero p h = get-empty nat_cmp p
  none g (suc n) p h = put-other (by_pid g n) (g n) p (λ e is. h n e (omega arith) is) ∙ none g n p (λ j e lt is. h j e (omega arith) is)

  pub found : (g : ℕ → Option (ℕ × X)) (n i p : ℕ) (x : X) → i < n → g i ≡ Some (p, x) → ((j : ℕ) (e : ℕ × X) → j < n → j ≢ i → g j ≡ Some e → p ≢ e.0) → get (by_pid g n) p ≡ Some x
  unfolding by_pid
  found g zero i p x lt is others = absurd (omega arith)
  found g (suc n) i p x lt is others = elim (cases_eq n i) [
    | inl e ↦ put-here (by_pid g n) (g n) p x (ap g e ∙ is)
    | inr ne ↦ put-other (by_pid g n) (g n) p (λ e at. others n e (omega arith) ne at) ∙ found g n i p x (omega (arith, ne)) is (λ j e lt apart at. others j e (omega arith) apart at)
  ]

  -- slot i has, or gets, an entry of pid p
  pub by_pid-insert : (f g : ℕ → Option (ℕ × X)) (n i p : ℕ) (x : X) → i < n → g i ≡ Some (p, x) → ((j : ℕ) → j < n → j ≢ i → g j ≡ f j)
      → ((e : ℕ × X) → f i ≡ Some e → e.0 ≡ p) → ((j : ℕ) (e : ℕ × X) → j < n → j ≢ i → f j ≡ Some e → e.0 ≢ p)
      → by_pid g n ≡ insert (by_pid f n) p x
  by_pid-insert f g n i p x lt becomes stays was others = same_pages (by_pid g n) (insert (by_pid f n) p x) (λ q. elim (cases_eq q p) [
    | inl e ↦ ap (get (by_pid g n)) e ∙ found g n i p x lt becomes
        (λ j y below ne is same. others j y below ne (sym (stays j below ne) ∙ is) (sym same))
        ∙ sym (ap (get (insert (by_pid f n) p x)) e ∙ get_same (by_pid f n) p x)
    | inr apart ↦ elsewhere f g n i q stays (λ e is at. apart (at ∙ was e is)) (λ e is at. apart (at ∙ same_pid e (sym is ∙ becomes))) ∙ sym (get_other (by_pid f n) p x q apart)
  ])
    where
      same_pid : (e : ℕ × X) → Some e ≡ Some (p, x) → e.0 ≡ p
      same_pid e h = let k : e ≡ (p, x) = cc in ap (λ (y : ℕ × X). y.0) k

  -- slot i loses its entry
  pub by_pid-remove : (f g : ℕ → Option (ℕ × X)) (n i p : ℕ) → i < n → g i ≡ None → ((j : ℕ) → j < n → j ≢ i → g j ≡ f j)
      → ((e : ℕ × X) → f i ≡ Some e → e.0 ≡ p) → ((j : ℕ) (e : ℕ × X) → j < n → j ≢ i → f j ≡ Some e → e.0 ≢ p)
      → by_pid g n ≡ remove (by_pid f n) p
  by_pid-remove f g n i p lt becomes stays was others = same_pages (by_pid g n) (remove (by_pid f n) p) (λ q. elim (cases_eq q p) [
    | inl e ↦ ap (get (by_pid g n)) e ∙ none g n p (gone) ∙ sym (ap (get (remove (by_pid f n) p)) e ∙ gone_same (by_pid f n) p)
    | inr apart ↦ elsewhere f g n i q stays (λ e is at. apart (at ∙ was e is)) (λ e is at. absurd (cc)) ∙ sym (gone_other (by_pid f n) p q apart)
  ])
    where
      gone : (j : ℕ) (e : ℕ × X) → j < n → g j ≡ Some e → p ≢ e.0
      gone j e below is at = elim (cases_eq j i) [
        | inl here ↦ absurd (no (g j) e (ap g here ∙ becomes) is)
        | inr ne ↦ others j e below ne (sym (stays j below ne) ∙ is) (sym at)
      ]
        where
          no : (o : Option (ℕ × X)) (e : ℕ × X) → o ≡ None → o ≡ Some e → ⊥
          no o e a b = cc

  -- no entry changes
  pub by_pid-same : (f g : ℕ → Option (ℕ × X)) (n : ℕ) → ((j : ℕ) → g j ≡ f j) → by_pid g n ≡ by_pid f n
  unfolding by_pid
  by_pid-same f g zero h = refl
  by_pid-same f g (suc n) h = ap (λ m. put m (g n)) (by_pid-same f g n h) ∙ ap (put (by_pid f n)) (h n)
