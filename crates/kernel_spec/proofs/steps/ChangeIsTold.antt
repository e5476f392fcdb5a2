-- The state after a step that changes the process itself, open files, pipes, the console and free frames.
use Rattle.kernel_spec.proofs.Prelude.{ℕ, ◌∙◌, ◌≡◌, ◌≢◌, ◌⊎◌, Alive, Answer, ap, Bool, Call, changed_state, Console, Descriptors, eqb_tells, file_at, FinMap, get, gone_with, Image, inl, inr, is_some}
use Rattle.kernel_spec.proofs.Prelude.{IsNewbornOf, IsSome, Live, live, live_part, nat_cmp, None, OpenFile, Option, Own, Pipe, refl, Registers, same_Some, Some, State, StateAfter, sym, view, view_of}
use Rattle.kernel_spec.proofs.steps.SeenByParts.{file_of, pipe_of_open}
use Rattle.kernel_spec.proofs.steps.MapsAfterChange.{get_same}
use Rattle.kernel_spec.proofs.steps.ViewsAfterSetLive.{live-set_live_there}
use Rattle.kernel_spec.proofs.steps.OthersTableIsSeen.{Tells, Spares, kind, kind_pipe}
use Rattle.kernel_spec.proofs.steps.ChangeIsSeen.{leaving, leaves_changed, view_there}
use Rattle.kernel_spec.proofs.steps.StateAfterIsTold.{OldOrNew, files_after, state_after}
use Rattle.kernel_spec.proofs.Common.{is_some-view}

module _ (s : State) (p : ℕ) (old : Live) (was : get s.processes p ≡ Some (Alive old)) (r : Registers) (i : Image) (c : Option Call) (k : Bool) (ds : FinMap nat_cmp ℕ)
    (files : FinMap nat_cmp OpenFile) (pipes : FinMap nat_cmp Pipe) (console : Console) (free : ℕ) where
  abbrev new : Live
  new = record old { regs = r; image = i; call = c; killed = k; descriptors = ds }

  abbrev after : State
  after = changed_state p new files pipes console free s

  pub mine_before : (d : ℕ) → file_at s p d ≡ get old.descriptors d
  mine_before d = ap (λ (o : Option Live). file_of o d) (ap live_part was)

  pub mine_after : (d : ℕ) → file_at after p d ≡ get ds d
  mine_after d = ap (λ (o : Option Live). file_of o d) (ap live_part (get_same s.processes p (Alive new)))

  pub others_files : (q d g : ℕ) → q ≢ p → file_at after q d ≡ Some g → file_at s q d ≡ Some g
  others_files q d g apart h = sym (ap (λ (o : Option Live). file_of o d) (live-set_live_there s p old new was refl q apart)) ∙ h

  pub nobody_more : (o : Own) (q : ℕ) → IsSome (view after q) → (q ≡ p) ⊎ IsSome (view s q) ⊎ IsNewbornOf o q
  nobody_more o q h = elim (eqb_tells q p) [
    | inl e ↦ inl e.1
    | inr e ↦ inr (inl (is_some-view (live s q) s q ∙ sym (ap is_some (live-set_live_there s p old new was refl q e.1)) ∙ sym (is_some-view (live after q) after q) ∙ h))
  ]

  pub after_changed : (a : Answer) → gone_with a ≡ None → (left : Descriptors) → Tells s after p left → Spares s after p
      → ((d f g : ℕ) → get old.descriptors d ≡ Some f → get ds d ≡ Some g → f ≡ g)
      → ((q d f j : ℕ) → file_at s q d ≡ Some f → pipe_of_open (get files f) ≡ Some j → pipe_of_open (get s.files f) ≡ Some j)
      → ((d f : ℕ) → get ds d ≡ Some f → OldOrNew s p after f)
      → StateAfter s (view_of s p old) (leaving a (view_of after p new) left) after
  unfolding view_of
  after_changed a stays left tells spares keep targets from =
      state_after s after (view_of s p old) (leaving a (view_of after p new) left)
      (leaves_changed s p old was r i c k ds files pipes console free a stays left tells spares)
      (view_there s p old was r i c k ds files pipes console free) tt (nobody_more (leaving a (view_of after p new) left))
      (files_after s after p (leaving a (view_of after p new) left) refl others_files
      (λ d f g x y. keep d f g (sym (mine_before d) ∙ x) (sym (mine_after d) ∙ y))
      targets (λ d f h. from d f (sym (mine_after d) ∙ h)))

-- ---- where the descriptors stay, and each open file but for its offset

module _ (s : State) (p : ℕ) (old : Live) (was : get s.processes p ≡ Some (Alive old)) (r : Registers) (i : Image) (c : Option Call) (k : Bool)
    (files : FinMap nat_cmp OpenFile) (pipes : FinMap nat_cmp Pipe) (console : Console) (free : ℕ) (kinds : (f : ℕ) → kind (get files f) ≡ kind (get s.files f)) where
  pub after_same_files : (a : Answer) → gone_with a ≡ None → (left : Descriptors)
      → Tells s (changed_state p (record old { regs = r; image = i; call = c; killed = k }) files pipes console free s) p left
      → Spares s (changed_state p (record old { regs = r; image = i; call = c; killed = k }) files pipes console free s) p
      → StateAfter s (view_of s p old) (leaving a (view_of
      (changed_state p (record old { regs = r; image = i; call = c; killed = k }) files pipes console free s) p
      (record old { regs = r; image = i; call = c; killed = k })) left)
      (changed_state p (record old { regs = r; image = i; call = c; killed = k }) files pipes console free s)
  after_same_files a stays left tells spares = after_changed s p old was r i c k old.descriptors files pipes console free a stays left tells spares
      (λ d f g x y. same_Some f g (sym x ∙ y))
      (λ q d f j x y. sym (kind_pipe (get s.files f)) ∙ sym (ap pipe_of_open (kinds f)) ∙ kind_pipe (get files f) ∙ y)
      (λ d f h. inl (d, mine_before s p old was r i c k old.descriptors files pipes console free d ∙ h))
