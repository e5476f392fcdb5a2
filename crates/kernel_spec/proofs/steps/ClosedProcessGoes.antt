-- A process without descriptors goes.
use Rattle.kernel_spec.proofs.Prelude.{ℕ, ℤ, ◌+◌, ◌∙◌, ◌≡◌, ◌≢◌, Alive, ap, arith, cond, empty, end_of, end_process, eqb_tells, false, fewer_on, fewer_on_all, FinMap, freed_on, freed_on_all, get}
use Rattle.kernel_spec.proofs.Prelude.{get-empty, give_frames, given_to, gone_state, inl, inr, insert, is_this, IsLive, Live, nat_cmp, NOFILE, None, Option, option_map, orphan, orphans, Pipe, price}
use Rattle.kernel_spec.proofs.Prelude.{refl, Some, State, suc, sym, zero, Zombie}
use Rattle.kernel_spec.proofs.steps.OrphansKeepKeys.{get-orphans}

module _ (s : State) (l : Live) (closed : l.descriptors ≡ empty) where
  none-named : (d : ℕ) → get l.descriptors d ≡ None
  none-named d = ap (λ (m : FinMap nat_cmp ℕ). get m d) closed ∙ get-empty nat_cmp d

  none-fewer : (n : ℕ) (m : FinMap nat_cmp Pipe) → fewer_on_all s l n m ≡ m
  unfolding fewer_on_all
  none-fewer zero m = refl
  none-fewer (suc n) m = ap (λ o. fewer_on_all s l n (fewer_on (end_of s o) m)) (none-named n) ∙ none-fewer n m

  none-freed : (n : ℕ) (m : FinMap nat_cmp Pipe) → freed_on_all s l n m ≡ 0
  unfolding freed_on_all
  none-freed zero m = refl
  none-freed (suc n) m = ap (λ o. freed_on_all s l n (fewer_on (end_of s o) m) + freed_on (end_of s o) m) (none-named n) ∙ omega (arith, none-freed n m)

  -- what ends it, once its children went to pid 1
  pub gone-closed : (p : ℕ) (status : ℤ) → give_frames (price l.image + 1) (end_process p l.parent status (orphans p s)) ≡ gone_state p l status s.files s
  gone-closed p status =
      let free : s.free + (price l.image + 1) ≡ s.free + price l.image + 1 + freed_on_all s l NOFILE s.pipes = omega (arith, none-freed NOFILE s.pipes) in
      λ t. record s { processes = insert (orphans p s).processes p (Zombie l.parent status); pipes = sym (none-fewer NOFILE s.pipes) t; free = free t }

-- a process that isn't its own parent keeps its parent
pub keeps-parent : (s : State) (p : ℕ) (l m : Live) → IsLive s p l → l.parent ≢ Some p → IsLive (orphans p s) p m → m ≡ l
keeps-parent s p l m was other is = same (sym is ∙ get-orphans p s p ∙ ap (option_map (orphan p)) was ∙ ap (λ b. Some (cond b (given_to 1 (Alive l)) (Alive l))) (by l.parent other))
  where
    by : (o : Option ℕ) → o ≢ Some p → is_this p o ≡ false
    by None ne = refl
    by (Some q) ne = elim (eqb_tells q p) [ inl h ↦ absurd (ne (ap Some h.1)) | inr h ↦ h.0 ]

    same : Some (Alive m) ≡ Some (Alive l) → m ≡ l
    same e = cc
