-- The children of a process that is gone.
use Rattle.kernel_spec.proofs.Prelude.{[], ℕ, ◌||◌, ◌∙◌, ◌∷◌, ◌≡◌, Alive, ap, Bool, change, cond, contains_key-keys, eq_by_cmp, eqb_tells, false, FinMap, fold, get, given_to, inl, inr, is_some}
use Rattle.kernel_spec.proofs.Prelude.{is_this, keys, List, list_any, nat_cmp, nat_cmp_total, nat_eq, None, Option, option_map, orphan, orphans, parent_of, Process, refl, Some, State, sym, true}
use Rattle.kernel_spec.proofs.Prelude.{unsigned_tied, Zombie}
use Rattle.xk_base.proofs.Options.{same_either_way}
use Rattle.kernel_spec.proofs.steps.MapsAfterChange.{get_at, keys_insert}

module _ (f : Process → Process) (again : (x : Process) → f (f x) ≡ f x) where
  pub get-change : (m : FinMap nat_cmp Process) (q r : ℕ) (o : Option Process) → get m q ≡ o → get (change f q m o) r ≡ cond (nat_eq r q) (option_map f (get m r)) (get m r)
  get-change m q r None is = elim (eqb_tells r q) [
    | inl h ↦ let none : get m r ≡ None = ap (get m) h.1 ∙ is in none ∙ sym (ap (λ (b : Bool). cond b (option_map f (get m r)) (get m r)) h.0 ∙ ap (option_map f) none)
    | inr h ↦ sym (ap (λ (b : Bool). cond b (option_map f (get m r)) (get m r)) h.0)
  ]
  get-change m q r (Some x) is = get_at m q (f x) r ∙ elim (eqb_tells r q) [
    | inl h ↦ ap (λ (b : Bool). cond b (Some (f x)) (get m r)) h.0 ∙ sym (ap (λ (b : Bool). cond b (option_map f (get m r)) (get m r)) h.0 ∙ ap (option_map f) (ap (get m) h.1 ∙ is))
    | inr h ↦ ap (λ (b : Bool). cond b (Some (f x)) (get m r)) h.0 ∙ sym (ap (λ (b : Bool). cond b (option_map f (get m r)) (get m r)) h.0)
  ]

  pub keys-change : (m : FinMap nat_cmp Process) (q : ℕ) (o : Option Process) → get m q ≡ o → keys (change f q m o) ≡ keys m
  keys-change m q None is = refl
  keys-change m q (Some x) is = keys_insert nat_cmp_total m q (f x) (ap is_some is)

  twice : (a b : Bool) (o : Option Process) → cond b (option_map f (cond a (option_map f o) o)) (cond a (option_map f o) o) ≡ cond (a || b) (option_map f o) o
  twice true true None = refl
  twice true true (Some x) = ap Some (again x)
  twice true false o = refl
  twice false b o = refl

  get-fold : (ks : List ℕ) (m : FinMap nat_cmp Process) (r : ℕ) → get (fold (λ m q. change f q m (get m q)) m ks) r ≡ cond (list_any (eq_by_cmp nat_cmp r) ks) (option_map f (get m r)) (get m r)
  get-fold [] m r = refl
  get-fold (q ∷ ks) m r =
      get-fold ks (change f q m (get m q)) r
      ∙ (λ i. cond (list_any (eq_by_cmp nat_cmp r) ks) (option_map f (get-change m q r (get m q) refl i)) (get-change m q r (get m q) refl i))
      ∙ twice (nat_eq r q) (list_any (eq_by_cmp nat_cmp r) ks) (get m r)
      ∙ ap (λ (b : Bool). cond (b || list_any (eq_by_cmp nat_cmp r) ks) (option_map f (get m r)) (get m r)) (sym (unsigned_tied r q))

  keys-fold : (ks : List ℕ) (m : FinMap nat_cmp Process) → keys (fold (λ m q. change f q m (get m q)) m ks) ≡ keys m
  keys-fold [] m = refl
  keys-fold (q ∷ ks) m = keys-fold ks (change f q m (get m q)) ∙ keys-change m q (get m q) refl

  where_some : (o : Option Process) → cond (is_some o) (option_map f o) o ≡ option_map f o
  where_some None = refl
  where_some (Some x) = refl

  get-all : (m : FinMap nat_cmp Process) (r : ℕ) → get (fold (λ m q. change f q m (get m q)) m (keys m)) r ≡ option_map f (get m r)
  get-all m r = get-fold (keys m) m r ∙ ap (λ (b : Bool). cond b (option_map f (get m r)) (get m r)) (sym (contains_key-keys m r)) ∙ where_some (get m r)

given_again : (p : ℕ) (x : Process) → given_to p (given_to p x) ≡ given_to p x
given_again p (Alive l) = refl
given_again p (Zombie parent status) = refl

orphan_again : (p : ℕ) (x : Process) → orphan p (orphan p x) ≡ orphan p x
orphan_again p x = by (is_this p (parent_of x)) refl
  where
    by : (b : Bool) → is_this p (parent_of x) ≡ b → orphan p (cond b (given_to 1 x) x) ≡ cond b (given_to 1 x) x
    by true e = ap (λ (y : Process). cond (is_this p (parent_of (given_to 1 x))) y (given_to 1 x)) (given_again 1 x) ∙ same_either_way (is_this p (parent_of (given_to 1 x))) (given_to 1 x)
    by false e = ap (λ (b : Bool). cond b (given_to 1 x) x) e

pub get-orphans : (p : ℕ) (s : State) (r : ℕ) → get (orphans p s).processes r ≡ option_map (orphan p) (get s.processes r)
get-orphans p s r = get-all (orphan p) (orphan_again p) s.processes r

pub keys-orphans : (p : ℕ) (s : State) → keys (orphans p s).processes ≡ keys s.processes
keys-orphans p s = keys-fold (orphan p) (orphan_again p) (keys s.processes) s.processes
