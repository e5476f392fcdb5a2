-- A call that moves bytes between a pipe and its process, or that only waits: what it has left before its answer.
use Rattle.kcall_core.proofs.Prelude.{ℕ, ℤ, ◌+◌, ◌∙◌, ◌≡◌, ◌≤◌, Alive, ap, AreCounted, Blocked, Bool, changed_state, Channel, descriptors_at, each_changed, each_of, false, frame_count, get, get_or}
use Rattle.kcall_core.proofs.Prelude.{get_or-set_other, get_or-set_same, Hart, held_at, Image, inl, inr, insert, insert_again, IsRunning, IsSome, IsSound, IsWhole, Kernel, length, Live, live}
use Rattle.kcall_core.proofs.Prelude.{live_now, live_of, Memories, Moves, namings, None, option_map, or_nothing, Own, own, pid_now, Pipe, PIPE_BYTES, place_at, place_is_live, place_now, price, ready}
use Rattle.kcall_core.proofs.Prelude.{refl, set_pipe, slot_now, Slots, Some, State, state_of, subst, sym, view, view_of, WellFormed, with_image, woken_by}
use Rattle.kcall_core.proofs.table.States.{running, Goes, goes-processes, goes-sound}
use Rattle.kcall_core.proofs.memory.Changes.{some-inside}
use Rattle.kcall_core.proofs.turns.Turned.{live-is}
use Rattle.kcall_core.proofs.table.Woken.{place-each, live-woken, each-none, stirred-state, stirred-sound}
use Rattle.kernel_spec.proofs.rows.Asleep.{blocks_unready}
use Rattle.kcall_core.proofs.making.Prepared.{over}
use Rattle.kcall_core.proofs.making.Midway.{WakeOn, Midway}
use Rattle.file_table.specs.OpenFiles as files
use Rattle.kernel_spec.proofs.well.WellLaws as well
use Rattle.kernel_spec.proofs.well.WellSteps as steps

-- a process that sleeps by its step isn't ready then
pub sleeps-unready : (s t : State) (p : ℕ) (l m : Live) (o : Own) (number : ℤ) → own (view_of s p l) ≡ o → o.answer ≡ Blocked number
    → view t p ≡ o.next → live t p ≡ Some m → ready (view_of t p m) ≡ false
unfolding view_of
sleeps-unready s t p l m o number is answer next lives =
    blocks_unready (view_of s p l) (view_of t p m) number (ap (λ (x : Own). x.answer) is ∙ answer)
    (ap (λ (x : Own). x.next) is ∙ sym next ∙ ap (option_map (view_of t p)) lives)

-- ---- nothing is done yet

abbrev pub nobody : Channel → Bool
nobody c = false

module _ {k : Kernel} {h : Hart} (whole : IsWhole k h) (runs : IsRunning k) where
  none-wake : WakeOn nobody (state_of k h).pipes (state_of k h).pipes (state_of k h).console (state_of k h).console
  none-wake = record {
    bytes = λ i shut. sym shut;
    room = λ i shut. sym shut;
    keys = λ shut. sym shut;
    sending = λ shut. sym shut;
    children = λ q. refl;
    clock = refl;
  }

  pub still : Midway k h k h nobody (live_now k h) (state_of k h).files (state_of k h).pipes (state_of k h).console (state_of k h).free
  still = record {
    sound = whole.sound;
    table = whole.files;
    counted = whole.counted;
    frames = refl;
    current = refl;
    last = refl;
    places = λ j. ap (λ (t : Slots). place_at t j) (each-none nobody k.table (λ c. refl)) ∙ place-each (woken_by nobody) k.table j;
    state = ap (λ m. record (state_of k h) { processes = m }) (sym (insert_again (state_of k h).processes (pid_now k) (Alive (live_now k h)) (live-is k h whole.sound runs)));
    well = whole.well;
    parent = refl;
    wake = none-wake;
    targets = inr (λ file x there. there);
  }

  -- ---- bytes have moved

  module _ (m : Memories) (image : Image) (f : ℕ) (x y : Pipe) (moves : Moves k.memories m (slot_now k) image f y)
      (there : get (state_of k h).pipes f ≡ Some x) (readers : y.readers ≡ x.readers) (writers : y.writers ≡ x.writers) (fits : length y.bytes ≤ PIPE_BYTES)
      (paid : price image ≡ price (live_now k h).image) where
    abbrev s : State
    s = state_of k h

    abbrev p : ℕ
    p = pid_now k

    abbrev moved : Live
    moved = record (live_now k h) { image = image }

    its-memory : IsSome (get_or (each_of k.memories) (slot_now k) None)
    its-memory = let r = running k h whole.sound runs in whole.sound.lives (slot_now k) r.is.process r.is.is r.is.live

    here : get_or (each_of m) (slot_now k) None ≡ Some (with_image image (held_at (each_of k.memories) (slot_now k)))
    here =
        ap (λ e. get_or e (slot_now k) None) moves.each
        ∙ get_or-set_same (each_of k.memories) (slot_now k) (Some (with_image image (held_at (each_of k.memories) (slot_now k)))) None (some-inside (each_of k.memories) (slot_now k) its-memory)

    goes : Goes k (over k m)
    goes = record {
      table = refl;
      current = refl;
      each = λ j ne. ap (λ e. get_or e j None) moves.each ∙ get_or-set_other (each_of k.memories) (slot_now k) j (Some (with_image image (held_at (each_of k.memories) (slot_now k)))) None ne;
    }

    pub moved-sound : IsSound (over k m) h
    moved-sound =
        goes-sound k (over k m) h h whole.sound runs goes moves.sound (subst (λ o. IsSome o) (sym here) refl) (moves.runs (slot_now k) h (running k h whole.sound runs).is.runs)

    moved-state : state_of (over k m) h ≡ changed_state p moved s.files (insert s.pipes f y) s.console s.free s
    unfolding state_of
    moved-state =
        let processes = goes-processes k (over k m) h h whole.sound runs goes in
        (λ t. record (state_of (over k m) h) { processes = processes t; pipes = moves.pipes t; free = moves.free t })
        ∙ ap (λ o. changed_state p (live_of (place_now k) (descriptors_at k.table (slot_now k)) (or_nothing o) h.regs) s.files (insert s.pipes f y) s.console s.free s) here

    moved-well : WellFormed (frame_count k) (changed_state p moved s.files (insert s.pipes f y) s.console s.free s)
    moved-well =
        let u = set_pipe f y s in
        well.alone (frame_count k) u p (live_now k h) (live_now k h).regs image (live_now k h).call (live_now k h).killed s.console s.free
        (steps.well_piped (frame_count k) s f x y whole.well there readers writers fits) (live-is k h whole.sound runs)
        (ap (λ n. s.free + (n + 1)) paid) (record { typed = whole.well.keys; sent_later = whole.well.to_send })

    -- and those who wait for them wake
    module _ (wakes : Channel → Bool) (k1 : Kernel) (table : k1.table ≡ each_changed (woken_by wakes) k.table)
        (rest : k1 ≡ record (over k m) { table = k1.table }) (wake : WakeOn wakes s.pipes (insert s.pipes f y) s.console s.console) where
      place1 : (j : ℕ) → place_at k1.table j ≡ option_map (woken_by wakes) (place_at k.table j)
      place1 j = ap (λ (t : Slots). place_at t j) table ∙ place-each (woken_by wakes) k.table j

      descriptors1 : (j : ℕ) → descriptors_at k1.table j ≡ descriptors_at k.table j
      descriptors1 j = ap (λ (t : Slots). descriptors_at t j) table

      counted1 : AreCounted k1.files k1.table
      counted1 = subst (λ fs. AreCounted fs k1.table) (sym (ap (λ (n : Kernel). n.files) rest)) (record {
        counts = λ file. whole.counted.counts file ∙ ap (λ (t : Slots). namings t file) (sym (ap (λ (t : Slots). record k.table { descriptors = t.descriptors }) table));
        lists = λ j lt. ap length (descriptors1 j) ∙ whole.counted.lists j lt;
        closed = λ j dead. descriptors1 j ∙ whole.counted.closed j (sym (ap place_is_live (place1 j) ∙ live-woken wakes (place_at k.table j)) ∙ dead);
      })

      pub moved-midway : Midway k h k1 h wakes moved s.files (insert s.pipes f y) s.console s.free
      moved-midway = record {
        sound = stirred-sound (over k m) k1 wakes table rest h moved-sound;
        table = subst files.IsTable (sym (ap (λ (n : Kernel). n.files) rest)) whole.files;
        counted = counted1;
        frames = ap (λ (n : Kernel). length n.memories.ram) rest ∙ moves.frames;
        current = ap (λ (n : Kernel). n.current) rest;
        last = ap (λ (t : Slots). t.last) table;
        places = place1;
        state = stirred-state (over k m) k1 wakes table rest h ∙ moved-state;
        well = subst (WellFormed (frame_count k)) (sym (stirred-state (over k m) k1 wakes table rest h ∙ moved-state)) moved-well;
        parent = refl;
        wake = wake;
        targets = inl (λ q d g other at. refl);
      }
