-- Wait for a child that is gone: it is the step that its row tells.
use Rattle.kernel_spec.proofs.Prelude.{ℕ, ℤ, ◌&&◌, ◌||◌, ◌∙◌, ◌≡◌, ◌≢◌, Alive, ap, Bool, Call, Called, cast_unsigned, child_of, child_status, cond, done, eq-eqb, eqb_tells, false, filter, get}
use Rattle.kernel_spec.proofs.Prelude.{goes_on, Image, inl, inr, insert, keys, le_bytes, least_zombie, Live, live, live_part, nat_eq, None, not, Option, pos, Process, refl, Some, State, Status, sym}
use Rattle.kernel_spec.proofs.Prelude.{told_image, true, View, view_of, w32, wait, waited_state, with_a0, word, writable_now, write_image, Zombie}
use Rattle.kernel_spec.proofs.steps.MapsAfterChange.{get_without, keys_remove}
use Rattle.kernel_spec.proofs.steps.ViewsAfterSetLive.{same_child, same_keys, live-set_live_there}
use Rattle.kernel_spec.proofs.steps.TableTells.{Leaves, own_table_tells}
use Rattle.kernel_spec.proofs.steps.GoneIsItsRow.{not_this}
use Rattle.kernel_spec.proofs.rows.RowParts.{reaped, unless, told, without_child}
use Rattle.kernel_spec.proofs.rows.Settled.{told-ready}
use Rattle.kernel_spec.proofs.rows.RowsByParts.{wait_same}
use Rattle.kernel_spec.proofs.Common.{gone_child, or_false}

told_is : (b : Bool) (i : Image) (v : View) → cond b v (record v { image = i }) ≡ record v { image = cond b v.image i }
told_is true i v = refl
told_is false i v = refl

module _ (s : State) (p q : ℕ) (old : Live) (was : get s.processes p ≡ Some (Alive old)) (c : Call) (status : ℤ) (zombie : get s.processes q ≡ Some (Zombie (Some p) status)) where
  abbrev pub waited : Live
  waited = record old { regs = with_a0 old.regs (word (pos q)); image = told_image c.a0 status old.image; call = None }

  abbrev pub after : State
  after = waited_state p waited q s

  process_at : (r : ℕ) → get after.processes r ≡ cond (nat_eq r q) None (get (insert s.processes p (Alive waited)) r)
  process_at r = get_without (insert s.processes p (Alive waited)) q r

  pids_after : keys after.processes ≡ filter (λ r. not (nat_eq r q)) (keys s.processes)
  pids_after = keys_remove (insert s.processes p (Alive waited)) q ∙ ap (filter (λ r. not (nat_eq r q))) (same_keys s p old waited was refl)

  children_at : (m r : ℕ) → child_of m (get after.processes r) ≡ cond (nat_eq r q) None (child_of m (get s.processes r))
  children_at m r = ap (child_of m) (process_at r) ∙ gone_child m (nat_eq r q) (get (insert s.processes p (Alive waited)) r) ∙ ap (cond (nat_eq r q) None) (same_child s p old waited was refl m r)

  others_children : (m r : ℕ) → m ≢ p → child_of m (get after.processes r) ≡ child_of m (get s.processes r)
  others_children m r other = children_at m r ∙ elim (eqb_tells r q) [
    | inl h ↦
        ap (λ (b : Bool). cond b None (child_of m (get s.processes r))) h.0
        ∙ sym (ap (child_of m) (ap (get s.processes) h.1 ∙ zombie) ∙ ap (λ (b : Bool). cond b (Some (Status status)) None) (not_this m p other))
    | inr h ↦ ap (λ (b : Bool). cond b None (child_of m (get s.processes r))) h.0
  ]

  live_there : (o : Option Process) (m : Live) → live_part o ≡ Some m → o ≢ Some (Zombie (Some p) status)
  live_there None m e f = let no : ⊥ = cc in no
  live_there (Some (Alive l)) m e f = let no : ⊥ = cc in no
  live_there (Some (Zombie a b)) m e f = let no : ⊥ = cc in no

  pub stays : (m : ℕ) (l : Live) → m ≢ p → live s m ≡ Some l → live after m ≡ live s m
  stays m l other is = ap live_part (process_at m) ∙ elim (eqb_tells m q) [
    | inl h ↦ absurd (live_there (get s.processes m) l is (ap (get s.processes) h.1 ∙ zombie))
    | inr h ↦ ap (λ (b : Bool). live_part (cond b None (get (insert s.processes p (Alive waited)) m))) h.0 ∙ live-set_live_there s p old waited was refl m other
  ]

  keeps_other : (m : ℕ) (l : Live) → m ≢ p → live s m ≡ Some l → live after m ≡ Some (record l { killed = l.killed || false; parent = l.parent })
  keeps_other m l other is = stays m l other is ∙ is ∙ (λ j. Some (record l { killed = or_false l.killed j }))

  its_status : child_status (child_of p (get s.processes q)) ≡ status
  its_status = ap (λ (o : Option Process). child_status (child_of p o)) zombie ∙ ap (λ (b : Bool). child_status (cond b (Some (Status status)) None)) (eq-eqb p p refl)

  -- the row's answer and p's next view
  pub wait_own : (not (nat_eq c.a0 0) && not (writable_now old.image c.a0 4)) ≡ false → least_zombie (view_of s p old) ≡ Some q
      → wait c (view_of s p old) ≡ goes_on (Called c.number (pos q)) (view_of after p waited)
  unfolding view_of
  wait_own room least =
      wait_same c (view_of s p old) (told-ready old.image c.a0 (nat_eq c.a0 0) room).1
      ∙ ap (λ (b : Bool). unless b c (view_of s p old) (λ _. reaped c (view_of s p old) (least_zombie (view_of s p old)))) (told-ready old.image c.a0 (nat_eq c.a0 0) room).0
      ∙ ap (reaped c (view_of s p old)) least
      ∙ ap (λ (z : ℤ). done c (pos q) (told c.a0 z (without_child q (view_of s p old)))) its_status
      ∙ ap (done c (pos q)) (told_is (nat_eq c.a0 0) (write_image old.image c.a0 (le_bytes 4 (cast_unsigned w32 status))) (without_child q (view_of s p old)))
      ∙ (λ i. goes_on (Called c.number (pos q)) (record (view_of after p waited) { children = λ r. sym (children_at p r) i; pids = sym pids_after i }))

  pub wait_leaves : Leaves s after (view_of s p old) (goes_on (Called c.number (pos q)) (view_of after p waited))
  unfolding view_of
  wait_leaves = record {
    tells = own_table_tells s after p old (ap live_part was) (λ f. refl);
    spares = record { file = λ f other h. refl; pipe = λ j other h. refl; kinds = λ f other. refl };
    keeps = λ m l other is. (l.parent, keeps_other m l other is);
    children = λ m l other is r. others_children m r other;
    pids = refl;
    console = refl;
    next_pid = refl;
    free = refl;
    clock = refl;
    programs = refl;
  }
