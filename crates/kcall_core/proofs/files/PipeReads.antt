-- A read from a pipe, as the code goes through it.
use Rattle.kcall_core.proofs.Prelude.{ℕ, ℤ, ◌<◌, ◌||◌, ◌∙◌, ◌≡◌, ◌≤◌, After, Alive, ap, arith, Blocked, Bool, both_ways, Call, Called, changed_state, Channel, cond, drop, each_changed, each_of}
use Rattle.kcall_core.proofs.Prelude.{end_of, eq-eqb, eqb_tells, false, get, get_other, get_same, Hart, has_bytes, has_room, held_at, inl, inr, insert, is_for, IsRunning, IsSome, IsSound}
use Rattle.kcall_core.proofs.Prelude.{IsWhole, Kernel, le-ltb, length, length-drop, Live, live_now, live_part, lt-ltb, ltb-false, Makes, Memories, Moves, nat_eq, nat_lt, NOFILE, None, not, not-false}
use Rattle.kcall_core.proofs.Prelude.{not-true, or_gone, or_new, or_parts, Own, pid_now, Pipe, PIPE_BYTES, pipe_named, pipes_of, pos, read, read_is, read_takes, read_waits, read_waits_for, ReadsPipe}
use Rattle.kcall_core.proofs.Prelude.{ready, refl, row_of, row_waits_for, same_channel, slot_now, Some, State, state_of, subst, sym, take, target_at, target_of_open, there, true, View, view_now}
use Rattle.kcall_core.proofs.Prelude.{view_of, waits, waits_for, without_first, woken, write_image}
use Rattle.kcall_core.proofs.table.Woken.{each-woken}
use Rattle.kcall_core.proofs.turns.StepSlots.{KeepsAll}
use Rattle.kcall_core.proofs.making.CallAnswers.{IsDone}
use Rattle.kcall_core.proofs.making.Prepared.{over}
use Rattle.kcall_core.proofs.making.Buffers.{unmoved-keeps}
use Rattle.kcall_core.proofs.making.Midway.{WakeOn, IsAsleep, midway-done, midway-sleeps}
use Rattle.kcall_core.proofs.making.Moved.{still, moved-sound, moved-midway, sleeps-unready}
use Rattle.proc_table.specs.declared.channel.Channel.TheVariants as on
use Rattle.kernel_spec.specs.steps.Updates as update
use Rattle.kernel_spec.proofs.steps.AloneLawsHold as law
use Rattle.kernel_spec.proofs.well.WellLaws as well
use Rattle.kernel_spec.proofs.calls.read.{is_read}

cond-at : {A : Type 0} (b c : Bool) (x y : A) → b ≡ c → cond b x y ≡ cond c x y
cond-at b c x y e = ap (λ z. cond z x y) e

module _ {k : Kernel} {h : Hart} {c : Call} {f n : ℕ} (whole : IsWhole k h) (runs : IsRunning k) (x : ReadsPipe k h c f n) where
  abbrev s : State
  s = state_of k h

  abbrev p : ℕ
  p = pid_now k

  abbrev l : Live
  l = live_now k h

  abbrev v : View
  v = view_now k h

  abbrev count : ℕ
  count = there x.pipe n

  abbrev taken : Pipe
  taken = without_first count x.pipe

  pub pipe-there : IsSome (get (pipes_of k.memories) f)
  unfolding state_of
  pipe-there = subst (λ o. IsSome o) (sym x.on.pipe) refl

  pub pipe-is : pipe_named (pipes_of k.memories) f ≡ x.pipe
  unfolding state_of
  pipe-is = ap or_new x.on.pipe

  keeps-all : {o u : Own} → o ≡ u → KeepsAll s u → KeepsAll s o
  keeps-all e keeps = subst (KeepsAll s) (sym e) keeps

  -- ---- nothing is there yet

  module _ (none : not (has_bytes x.pipe) ≡ true) where
    row-waits : read c v ≡ waits c 0 v
    row-waits = read_is s p l c x.fd f x.name n x.end x.pipe x.on x.reads x.number x.buffer ∙ cond-at (not (has_bytes x.pipe)) true (waits c 0 v) _ none

    pub waits-answer : (read c v).answer ≡ Blocked c.number
    waits-answer = ap (λ (o : Own). o.answer) row-waits

    waits-keeps : KeepsAll s (read c v)
    unfolding view_of
    waits-keeps = keeps-all row-waits (record { child = refl; stays = refl; pids = refl })

    abbrev d : Call
    d = record c { moved = 0 }

    abbrev asleep : Live
    asleep = update.in_call d l

    abbrev after : State
    after = changed_state p asleep s.files s.pipes s.console s.free s

    waits-law : After s p l (read c v) after
    waits-law = read_waits s p l c x.fd f x.name n x.end x.pipe x.on x.reads x.number x.buffer (not-true (has_bytes x.pipe) none)

    for-bytes : c.number ≡ pos 5 → is_for (waits_for after p asleep) (on.Bytes f) ≡ true
    unfolding row_of
    for-bytes number =
        ap (λ z. is_for (row_waits_for after p asleep d (row_of z)) (on.Bytes f)) number
        ∙ ap (λ z. is_for (read_waits_for (target_at after asleep z)) (on.Bytes f)) x.number
        ∙ ap (λ b. is_for (read_waits_for (cond b (end_of after (get l.descriptors x.fd)) None)) (on.Bytes f)) (lt-ltb x.fd NOFILE x.on.below)
        ∙ ap (λ o. is_for (read_waits_for (end_of after o)) (on.Bytes f)) x.on.named_file
        ∙ ap (λ o. is_for (read_waits_for (target_of_open o)) (on.Bytes f)) x.on.opened
        ∙ eq-eqb f f refl

    unready : c.number ≡ pos 5 → l.killed ≡ false → l.call ≡ Some c → ready (view_of after p asleep) ≡ false
    unfolding view_of
    unready number unmarked busy = sleeps-unready s after p l asleep (read c v) c.number
        (law.resume s p l c unmarked busy ∙ is_read c v number) waits-answer waits-law.next (ap live_part (get_same s.processes p (Alive asleep)))

    pub read-waits : (k' : Kernel) (h' : Hart) → c.number ≡ pos 5 → l.killed ≡ false → l.call ≡ Some c → IsAsleep k h d (on.Bytes f) k' h' → Makes k h (read c v) k' h'
    read-waits k' h' number unmarked busy slept =
        midway-sleeps whole runs (still whole runs) k' h' d (on.Bytes f) (read c v) c.number slept
        (unmoved-keeps d l.image refl) waits-answer waits-keeps waits-law (for-bytes number, unready number unmarked busy)

  -- ---- it takes what is there

  module _ (some : not (has_bytes x.pipe) ≡ false) where
    pub takes-answer : (read c v).answer ≡ Called c.number (pos count)
    takes-answer = ap (λ (o : Own). o.answer) (read_is s p l c x.fd f x.name n x.end x.pipe x.on x.reads x.number x.buffer ∙ cond-at (not (has_bytes x.pipe)) false (waits c 0 v) _ some)

    takes-keeps : KeepsAll s (read c v)
    unfolding view_of
    takes-keeps = keeps-all (read_is s p l c x.fd f x.name n x.end x.pipe x.on x.reads x.number x.buffer
        ∙ cond-at (not (has_bytes x.pipe)) false (waits c 0 v) _ some) (record { child = refl; stays = refl; pids = refl })

    few : length x.pipe.bytes ≤ PIPE_BYTES
    few = whole.well.pipe_bytes f x.pipe x.on.pipe

    abbrev wakes : Channel → Bool
    wakes c = same_channel c (on.Room f)

    at : (i : ℕ) → i ≡ f → get (insert s.pipes f taken) i ≡ Some taken
    at i e = ap (get (insert s.pipes f taken)) e ∙ get_same s.pipes f taken

    was-at : (i : ℕ) → i ≡ f → or_gone (get s.pipes i) ≡ x.pipe
    was-at i e = ap (λ j. or_gone (get s.pipes j)) e ∙ ap or_gone x.on.pipe

    bytes-left : has_bytes x.pipe ≡ false → has_bytes taken ≡ false
    bytes-left shut =
        let e = or_parts (nat_lt 0 (length x.pipe.bytes)) (nat_eq x.pipe.writers 0) shut in
        let none = ltb-false 0 (length x.pipe.bytes) e.0 in
        (λ i. le-ltb 0 (length (drop count x.pipe.bytes)) (omega (arith, none, length-drop count x.pipe.bytes)) i || e.1 i)

    room-left : has_room x.pipe ≡ false → has_room taken ≡ true
    room-left shut =
        let e = or_parts (nat_lt (length x.pipe.bytes) PIPE_BYTES) (nat_eq x.pipe.readers 0) shut in
        let full = ltb-false (length x.pipe.bytes) PIPE_BYTES e.0 in
        let more : 1 ≤ n = elim (eqb_tells n 0) [ inl zero ↦ absurd (both_ways _ x.buffer.1 zero.0) | inr other ↦ omega (arith, other.1) ] in
        let less : length (drop count x.pipe.bytes) < PIPE_BYTES = omega (arith, full, few, more, length-drop count x.pipe.bytes) in
        (λ i. lt-ltb (length (drop count x.pipe.bytes)) PIPE_BYTES less i || nat_eq x.pipe.readers 0)

    wake : WakeOn wakes s.pipes (insert s.pipes f taken) s.console s.console
    wake = record {
      bytes = λ i shut. elim (eqb_tells i f) [
        | inl e ↦ sym (ap (λ o. has_bytes (or_gone o)) (at i e.1) ∙ bytes-left (sym (ap has_bytes (was-at i e.1)) ∙ shut))
        | inr e ↦ sym (ap (λ o. has_bytes (or_gone o)) (get_other s.pipes f taken i e.1) ∙ shut)
      ];
      room = λ i shut. elim (eqb_tells i f) [
        | inl e ↦ e.0 ∙ sym (ap (λ o. has_room (or_gone o)) (at i e.1) ∙ room-left (sym (ap has_room (was-at i e.1)) ∙ shut))
        | inr e ↦ e.0 ∙ sym (ap (λ o. has_room (or_gone o)) (get_other s.pipes f taken i e.1) ∙ shut)
      ];
      keys = λ shut. sym shut;
      sending = λ shut. sym shut;
      children = λ q. refl;
      clock = refl;
    }

    module _ (m : Memories) (told : ℕ) (told-is : told ≡ there (pipe_named (pipes_of k.memories) f) n) (slot : ℕ) (slot-is : slot ≡ slot_now k)
        (moves : Moves k.memories m slot (write_image (held_at (each_of k.memories) slot).image c.a1
        (take told (pipe_named (pipes_of k.memories) f).bytes)) f (without_first told (pipe_named (pipes_of k.memories) f))) where
      pub told-count : told ≡ count
      told-count = told-is ∙ ap (λ (y : Pipe). there y n) pipe-is

      its-moves : Moves k.memories m (slot_now k) (write_image l.image c.a1 (take count x.pipe.bytes)) f taken
      its-moves = subst (λ (z : ℕ × ℕ × Pipe). Moves k.memories m z.0
          (write_image (held_at (each_of k.memories) z.0).image c.a1 (take z.1 z.2.bytes)) f (without_first z.1 z.2))
          (λ i. (slot-is i, told-count i, pipe-is i)) moves

      left-few : length taken.bytes ≤ PIPE_BYTES
      left-few = omega (arith, few, length-drop count x.pipe.bytes)

      pub read-sound : IsSound (over k m) h
      read-sound =
          moved-sound whole runs m (write_image l.image c.a1 (take count x.pipe.bytes)) f x.pipe taken its-moves x.on.pipe refl refl left-few
          (well.writes_take_nothing l.image c.a1 (take count x.pipe.bytes))

      pub read-done : (k1 : Kernel) → k1.table ≡ each_changed (woken (on.Room f)) k.table → k1 ≡ record (over k m) { table = k1.table }
          → (k' : Kernel) (h' : Hart) (value : ℤ) → value ≡ pos told → IsDone k1 h value k' h' → Makes k h (read c v) k' h'
      read-done k1 table rest k' h' value is done =
          midway-done whole runs
          (moved-midway whole runs m (write_image l.image c.a1 (take count x.pipe.bytes)) f x.pipe taken its-moves x.on.pipe refl refl left-few
          (well.writes_take_nothing l.image c.a1 (take count x.pipe.bytes))
          wakes k1 (table ∙ each-woken wakes (on.Room f) k.table (λ d. refl)) rest wake)
          k' h' (pos count) (read c v) c.number (subst (λ z. IsDone k1 h z k' h') (is ∙ ap pos told-count) done) takes-answer takes-keeps
          (read_takes s p l c x.fd f x.name n x.end x.pipe x.on x.reads x.number x.buffer (not-false (has_bytes x.pipe) some))
