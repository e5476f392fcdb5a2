-- What changes of the state do to views.
use Rattle.kernel_spec.proofs.Prelude.{ℕ, ◌∙◌, ◌≡◌, ◌≢◌, Alive, ap, Bool, child_of, cond, eqb-true, false, get, insert, is_some, is_this, keys, Live, live, live_part, nat_cmp_total, nat_eq, None}
use Rattle.kernel_spec.proofs.Prelude.{Option, refl, Running, set_live, Some, State, sym, true, view_of}
use Rattle.kernel_spec.proofs.steps.MapsAfterChange.{keys_insert, get_at, get_same, get_other}

-- ---- a live process is replaced by one with the same parent

module _ (s : State) (p : ℕ) (old new : Live) (was : get s.processes p ≡ Some (Alive old)) (parent : new.parent ≡ old.parent) where
  same_child_at : (q r : ℕ) (b : Bool) → (b ≡ true → r ≡ p) → child_of q (cond b (Some (Alive new)) (get s.processes r)) ≡ child_of q (get s.processes r)
  same_child_at q r true here = ap (λ (o : Option ℕ). cond (is_this q o) (Some Running) None) parent ∙ sym (ap (child_of q) (ap (get s.processes) (here refl) ∙ was))
  same_child_at q r false here = refl

  pub same_child : (q r : ℕ) → child_of q (get (insert s.processes p (Alive new)) r) ≡ child_of q (get s.processes r)
  same_child q r = ap (child_of q) (get_at s.processes p (Alive new) r) ∙ same_child_at q r (nat_eq r p) (eqb-true r p)

  pub same_keys : keys (insert s.processes p (Alive new)) ≡ keys s.processes
  same_keys = keys_insert nat_cmp_total s.processes p (Alive new) (ap is_some was)

  -- of each process
  pub view-set_live : (q : ℕ) (l : Live) → view_of (set_live p new s) q l ≡ view_of s q l
  unfolding view_of
  view-set_live q l = λ i. record (view_of s q l) { children = λ r. same_child q r i; pids = same_keys i }

  pub live-set_live_here : live (set_live p new s) p ≡ Some new
  live-set_live_here = ap live_part (get_same s.processes p (Alive new))

  pub live-set_live_there : (q : ℕ) → q ≢ p → live (set_live p new s) q ≡ live s q
  live-set_live_there q apart = ap live_part (get_other s.processes p (Alive new) q apart)
