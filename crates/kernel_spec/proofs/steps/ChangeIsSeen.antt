-- Steps that change the process itself, and open files, pipes, the console and free frames.
use Rattle.kernel_spec.proofs.Prelude.{ℕ, ℤ, ◌||◌, ◌∙◌, ◌≡◌, ◌≢◌, Alive, Answer, ap, Blocked, Bool, Call, Called, changed_state, Console, Descriptors, done, false, FinMap, get, goes_on, gone_with}
use Rattle.kernel_spec.proofs.Prelude.{Image, left_by, Live, live, live_part, named, nat_cmp, None, numbered, OpenFile, Option, option_map, Own, Pipe, Process, refl, Registers, seen_children, Some}
use Rattle.kernel_spec.proofs.Prelude.{State, sym, View, view, view_of, waits, with_a0, word}
use Rattle.kernel_spec.proofs.steps.MapsAfterChange.{get_same}
use Rattle.kernel_spec.proofs.steps.ViewsAfterSetLive.{same_child, same_keys, live-set_live_there}
use Rattle.kernel_spec.proofs.steps.OthersTableIsSeen.{Tells, Spares}
use Rattle.kernel_spec.proofs.steps.TableTells.{Leaves}
use Rattle.kernel_spec.proofs.Common.{or_false}

-- an answer, a next view, and the descriptors as the step leaves them
abbrev pub leaving : Answer → View → Descriptors → Own
leaving a v left = record (goes_on a v) { left = record (left_by v) { descriptors = left } }

module _ (s : State) (p : ℕ) (old : Live) (was : get s.processes p ≡ Some (Alive old)) (r : Registers) (i : Image) (c : Option Call) (k : Bool) (ds : FinMap nat_cmp ℕ)
    (files : FinMap nat_cmp OpenFile) (pipes : FinMap nat_cmp Pipe) (console : Console) (free : ℕ) where
  abbrev pub new : Live
  new = record old { regs = r; image = i; call = c; killed = k; descriptors = ds }

  abbrev pub after : State
  after = changed_state p new files pipes console free s

  -- p's next view
  pub view_changed : (t : Descriptors) → t ≡ named (numbered after new)
      → ◌≡◌ {A = View} (record (view_of s p old) { regs = r; image = i; call = c; killed = k; descriptors = t; console = console; free = free })
      (view_of after p new)
  unfolding view_of
  view_changed t is = λ j. record (view_of after p new) { descriptors = is j; children = λ q. sym (same_child s p old new was refl p q) j; pids = sym (same_keys s p old new was refl) j }

  pub view_there : view after p ≡ Some (view_of after p new)
  view_there = ap (λ (o : Option Process). option_map (view_of after p) (live_part o)) (get_same s.processes p (Alive new))

  keeps_other : (q : ℕ) (m : Live) → q ≢ p → live s q ≡ Some m → live after q ≡ Some (record m { killed = m.killed || false; parent = m.parent })
  keeps_other q m apart is = live-set_live_there s p old new was refl q apart ∙ is ∙ (λ j. Some (record m { killed = or_false m.killed j }))

  pub leaves_changed : (a : Answer) → gone_with a ≡ None → (left : Descriptors) → Tells s after p left → Spares s after p → Leaves s after (view_of s p old) (leaving a (view_of after p new) left)
  unfolding view_of
  leaves_changed a stays left tells spares = record {
    tells = tells;
    spares = spares;
    keeps = λ q m apart is. (m.parent, keeps_other q m apart is);
    children = λ q m apart is x. same_child s p old new was refl q x ∙ sym (ap (λ (g : Option ℤ). seen_children g (view_of s p old) (view_of s q m) x) stays);
    pids = refl;
    console = refl;
    next_pid = refl;
    free = refl;
    clock = refl;
    programs = refl;
  }

-- ---- steps that touch no open file and no pipe

module _ (s : State) (p : ℕ) (old : Live) (was : get s.processes p ≡ Some (Alive old)) (r : Registers) (i : Image) (c : Option Call) (k : Bool) (console : Console) (free : ℕ) where
  abbrev pub alone : Live
  alone = record old { regs = r; image = i; call = c; killed = k }

  abbrev pub after_alone : State
  after_alone = changed_state p alone s.files s.pipes console free s

  pub view_alone : ◌≡◌ {A = View} (record (view_of s p old) { regs = r; image = i; call = c; killed = k; console = console; free = free }) (view_of after_alone p alone)
  unfolding view_of
  view_alone = view_changed s p old was r i c k old.descriptors s.files s.pipes console free (named (numbered s old)) refl

-- ---- a call that answers, or waits, and changes at most the image, the console and the free frames

module _ (s : State) (p : ℕ) (old : Live) (was : get s.processes p ≡ Some (Alive old)) (c : Call) (i : Image) (console : Console) (free : ℕ) where
  -- the process after its call answered, after its call waits
  abbrev pub answered_live : ℤ → Live
  answered_live value = record old { regs = with_a0 old.regs (word value); image = i; call = None }

  abbrev pub waiting_live : ℕ → Live
  waiting_live moved = record old { image = i; call = Some (record c { moved = moved }) }

  abbrev pub after_done : ℤ → State
  after_done value = changed_state p (answered_live value) s.files s.pipes console free s

  abbrev pub after_wait : ℕ → State
  after_wait moved = changed_state p (waiting_live moved) s.files s.pipes console free s

  pub done_is : (value : ℤ) → done c value (record (view_of s p old) { image = i; console = console; free = free }) ≡ goes_on (Called c.number value)
      (view_of (after_done value) p (answered_live value))
  unfolding view_of
  done_is value = ap (goes_on (Called c.number value)) (view_alone s p old was (with_a0 old.regs (word value)) i None old.killed console free)

  pub waits_is : (moved : ℕ) → waits c moved (record (view_of s p old) { image = i; console = console; free = free }) ≡ goes_on (Blocked c.number) (view_of (after_wait moved) p (waiting_live moved))
  unfolding view_of
  waits_is moved = ap (goes_on (Blocked c.number)) (view_alone s p old was old.regs i (Some (record c { moved = moved })) old.killed console free)
