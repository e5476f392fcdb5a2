-- A write to a pipe, as the code goes through it.
use Rattle.kcall_core.proofs.Prelude.{ℕ, ℤ, ◌%◌, ◌&&◌, ◌+◌, ◌-◌, ◌<◌, ◌^◌, ◌||◌, ◌∙◌, ◌≡◌, ◌≤◌, After, Alive, ap, arith, Blocked, Bool, Call, Called, cases_lt, changed_state, Channel, cond, done}
use Rattle.kcall_core.proofs.Prelude.{each_changed, each_of, end_of, eq-eqb, eqb_tells, false, fit, get, get_or, get_other, get_same, Hart, has_bytes, has_room, HasMemory, held_at, image_byte}
use Rattle.kcall_core.proofs.Prelude.{image_bytes, inl, inr, insert, is_for, IsRunning, IsSome, IsSound, IsWhole, Kernel, le-leb, le-ltb, length, length-append, Live, live_now, live_part}
use Rattle.kcall_core.proofs.Prelude.{lt-leb, lt-ltb, ltb-false, Makes, Memories, Moves, nat_eq, nat_le, nat_lt, NOFILE, None, now_moved, or_false, or_gone, or_new, or_nothing, or_parts, Own, pid_now}
use Rattle.kcall_core.proofs.Prelude.{Pipe, PIPE_BYTES, pipe_cost, pipe_named, pipe_write, PipeChanges, pipes_of, pos, readable, ready, refl, refused, row_of, row_waits_for, set, set-get_or, slot_now}
use Rattle.kcall_core.proofs.Prelude.{Some, State, state_of, subst, sym, target_at, target_of_open, the_value, true, View, view_now, view_of, waits, waits_for, wakes_readers, with_more, woken_by}
use Rattle.kcall_core.proofs.Prelude.{write, write_waits_for, WritesPipe, written}
use Rattle.std.proofs.lemmas.List.FromFn.{length-map-range_with_len}
use Rattle.kcall_core.proofs.table.States.{running}
use Rattle.kcall_core.proofs.memory.PipeRest.{next-read, rest-read}
use Rattle.kcall_core.proofs.turns.StepSlots.{KeepsAll}
use Rattle.kcall_core.proofs.making.CallAnswers.{IsDone}
use Rattle.kcall_core.proofs.making.Prepared.{over}
use Rattle.kcall_core.proofs.making.Buffers.{write-keeps}
use Rattle.kcall_core.proofs.making.Midway.{WakeOn, Midway, IsAsleep, midway-done, midway-sleeps}
use Rattle.kcall_core.proofs.making.Moved.{moved-sound, moved-midway, sleeps-unready}
use Rattle.proc_table.specs.declared.channel.Channel.TheVariants as on
use Rattle.kernel_spec.specs.steps.Updates as update
use Rattle.kernel_spec.proofs.steps.AloneLawsHold as law
use Rattle.kernel_spec.proofs.steps.PipeWriteIsItsRow as pipes
use Rattle.kernel_spec.proofs.calls.write.{is_write}

module _ {k : Kernel} {h : Hart} {c : Call} {f n : ℕ} (whole : IsWhole k h) (runs : IsRunning k) (x : WritesPipe k h c f n) where
  abbrev s : State
  s = state_of k h

  abbrev p : ℕ
  p = pid_now k

  abbrev l : Live
  l = live_now k h

  abbrev v : View
  v = view_now k h

  abbrev left : ℕ
  left = n - c.moved

  abbrev count : ℕ
  count = fit x.pipe left

  abbrev after : Pipe
  after = written c l x.pipe n

  pub pipe-there : IsSome (get (pipes_of k.memories) f)
  unfolding state_of
  pipe-there = subst (λ o. IsSome o) (sym x.on.pipe) refl

  pub pipe-is : pipe_named (pipes_of k.memories) f ≡ x.pipe
  unfolding state_of
  pipe-is = ap or_new x.on.pipe

  keeps-all : {o u : Own} → o ≡ u → KeepsAll s u → KeepsAll s o
  keeps-all e keeps = subst (KeepsAll s) (sym e) keeps

  -- ---- nobody can read any more

  pub is-refused : nat_eq x.pipe.readers 0 ≡ true → write c v ≡ refused c v
  is-refused broken = pipes.write_broken s p l x.fd f x.name x.end x.pipe x.on c n x.number x.writes x.buffer.0 x.buffer.1 x.buffer.2 broken

  -- ---- the bytes that go in

  its-memory : HasMemory (each_of k.memories) (slot_now k)
  its-memory = let r = running k h whole.sound runs in whole.sound.lives (slot_now k) r.is.process r.is.is r.is.live

  -- the rest of the buffer is there, wherever the sum of two words lies
  pub rest-there : (slot : ℕ) → slot ≡ slot_now k → (at : ℕ) → at ≡ (c.a1 + c.moved) % 2 ^ 64 → (m : ℕ) → m ≡ left → readable (held_at (each_of k.memories) slot).image at m ≡ true
  rest-there slot same at at-is m m-is = rest-read k.memories (slot_now k) c.a1 n c.moved whole.sound.memories its-memory x.buffer.2 at at-is slot same m m-is

  few : length x.pipe.bytes ≤ PIPE_BYTES
  few = whole.well.pipe_bytes f x.pipe x.on.pipe

  size-after : length after.bytes ≡ length x.pipe.bytes + count
  size-after = omega (arith, length-append x.pipe.bytes (image_bytes l.image (c.a1 + c.moved) count), length-map-range_with_len (image_byte l.image) (c.a1 + c.moved) count)

  abbrev wakes : Channel → Bool
  wakes = wakes_readers f count

  at : (i : ℕ) → i ≡ f → get (insert s.pipes f after) i ≡ Some after
  at i e = ap (get (insert s.pipes f after)) e ∙ get_same s.pipes f after

  was-at : (i : ℕ) → i ≡ f → or_gone (get s.pipes i) ≡ x.pipe
  was-at i e = ap (λ j. or_gone (get s.pipes j)) e ∙ ap or_gone x.on.pipe

  bytes-came : has_bytes x.pipe ≡ false → has_bytes after ≡ nat_lt 0 count
  bytes-came shut =
      let e = or_parts (nat_lt 0 (length x.pipe.bytes)) (nat_eq x.pipe.writers 0) shut in
      let none = ltb-false 0 (length x.pipe.bytes) e.0 in
      let size : length after.bytes ≡ count = omega (arith, none, size-after) in
      (λ i. nat_lt 0 (size i) || e.1 i) ∙ sym (or_false (nat_lt 0 count))

  room-stays : has_room x.pipe ≡ false → has_room after ≡ false
  room-stays shut =
      let e = or_parts (nat_lt (length x.pipe.bytes) PIPE_BYTES) (nat_eq x.pipe.readers 0) shut in
      let full = ltb-false (length x.pipe.bytes) PIPE_BYTES e.0 in
      (λ i. le-ltb (length after.bytes) PIPE_BYTES (omega (arith, full, size-after)) i || e.1 i)

  and-true : (b c : Bool) → c ≡ true → (b && c) ≡ b
  and-true true c e = e
  and-true false c e = refl

  and-false : (b c : Bool) → c ≡ false → (b && c) ≡ false
  and-false true c e = e
  and-false false c e = refl

  wake : WakeOn wakes s.pipes (insert s.pipes f after) s.console s.console
  wake = record {
    bytes = λ i shut. elim (eqb_tells i f) [
      | inl e ↦ and-true (nat_lt 0 count) (nat_eq i f) e.0 ∙ sym (ap (λ o. has_bytes (or_gone o)) (at i e.1) ∙ bytes-came (sym (ap has_bytes (was-at i e.1)) ∙ shut))
      | inr e ↦ and-false (nat_lt 0 count) (nat_eq i f) e.0 ∙ sym (ap (λ o. has_bytes (or_gone o)) (get_other s.pipes f after i e.1) ∙ shut)
    ];
    room = λ i shut. and-false (nat_lt 0 count) false refl ∙ sym (elim (eqb_tells i f) [
      | inl e ↦ ap (λ o. has_room (or_gone o)) (at i e.1) ∙ room-stays (sym (ap has_room (was-at i e.1)) ∙ shut)
      | inr e ↦ ap (λ o. has_room (or_gone o)) (get_other s.pipes f after i e.1) ∙ shut
    ]);
    keys = λ shut. and-false (nat_lt 0 count) false refl ∙ sym shut;
    sending = λ shut. and-false (nat_lt 0 count) false refl ∙ sym shut;
    children = λ q. and-false (nat_lt 0 count) false refl;
    clock = and-false (nat_lt 0 count) false refl;
  }

  module _ (read : nat_eq x.pipe.readers 0 ≡ false) (slot : ℕ) (slot-is : slot ≡ slot_now k) (to : ℕ) (to-is : to ≡ (c.a1 + c.moved) % 2 ^ 64)
      (told : ℕ) (told-is : told ≡ fit (pipe_named (pipes_of k.memories) f) left) (m : Memories)
      (moves : PipeChanges k.memories m f (Some (with_more (image_bytes (held_at (each_of k.memories) slot).image to told) (pipe_named (pipes_of k.memories) f)))) where
    pub told-count : told ≡ count
    told-count = told-is ∙ ap (λ (y : Pipe). fit y left) pipe-is

    same-bytes : image_bytes (held_at (each_of k.memories) slot).image to told ≡ image_bytes l.image (c.a1 + c.moved) count
    same-bytes = elim (cases_lt c.moved n) [
      | inl less ↦
          let here : to ≡ c.a1 + c.moved = next-read k.memories (slot_now k) c.a1 n c.moved whole.sound.memories its-memory x.buffer.2 to to-is less in
          (λ i. image_bytes (held_at (each_of k.memories) (slot-is i)).image (here i) (told-count i))
      | inr over ↦
          let none : count ≡ 0 = omega (arith, over) in
          (λ i. image_bytes (held_at (each_of k.memories) slot).image to ((told-count ∙ none) i)) ∙ (λ i. image_bytes l.image (c.a1 + c.moved) (sym none i))
    ]

    its-changes : PipeChanges k.memories m f (Some after)
    its-changes = subst (λ y. PipeChanges k.memories m f (Some y)) (λ i. with_more (same-bytes i) (pipe-is i)) moves

    its-moves : Moves k.memories m (slot_now k) l.image f after
    unfolding state_of
    its-moves =
        let (held, is) = the_value (get_or (each_of k.memories) (slot_now k) None) its-memory in
        record {
          sound = its-changes.sound;
          each = its-changes.each ∙ sym (ap (λ y. set (each_of k.memories) (slot_now k) y) (ap (λ o. Some (or_nothing o)) is ∙ sym is) ∙ set-get_or (each_of k.memories) (slot_now k) None);
          pipes = its-changes.pipes;
          free = omega (arith, its-changes.free, ap pipe_cost x.on.pipe);
          frames = its-changes.frames;
          runs = its-changes.runs;
        }

    left-few : length after.bytes ≤ PIPE_BYTES
    left-few = omega (arith, few, size-after)

    pub write-sound : IsSound (over k m) h
    write-sound = moved-sound whole runs m l.image f x.pipe after its-moves x.on.pipe refl refl left-few refl

    module _ (k1 : Kernel) (table : k1.table ≡ each_changed (woken_by (wakes_readers f told)) k.table) (rest : k1 ≡ record (over k m) { table = k1.table }) where
      mid : Midway k h k1 h wakes l s.files (insert s.pipes f after) s.console s.free
      mid = moved-midway whole runs m l.image f x.pipe after its-moves x.on.pipe refl refl left-few refl wakes k1
          (table ∙ ap (λ n. each_changed (woken_by (wakes_readers f n)) k.table) told-count) rest wake

      -- all bytes are in
      module _ (moved : ℕ) (moved-is : moved ≡ c.moved + told) where
        same-moved : moved ≡ now_moved c x.pipe n
        same-moved = moved-is ∙ ap (λ z. c.moved + z) told-count

        module _ (over : n ≤ moved) where
          over-is : nat_le n (now_moved c x.pipe n) ≡ true
          over-is = ap (nat_le n) (sym same-moved) ∙ le-leb n moved over

          ends : write c v ≡ done c (pos n) (pipes.table_written s p l x.fd f x.name x.end x.pipe x.on c n x.number x.writes x.buffer.0 x.buffer.1 x.buffer.2)
          ends = pipes.write_ends s p l x.fd f x.name x.end x.pipe x.on c n x.number x.writes x.buffer.0 x.buffer.1 x.buffer.2 read over-is

          pub ends-answer : (write c v).answer ≡ Called c.number (pos n)
          ends-answer = ap (λ (o : Own). o.answer) ends

          ends-keeps : KeepsAll s (write c v)
          unfolding view_of
          ends-keeps = keeps-all ends (record { child = refl; stays = refl; pids = refl })

          pub write-done : (k' : Kernel) (h' : Hart) (value : ℤ) → value ≡ pos n → IsDone k1 h value k' h' → Makes k h (write c v) k' h'
          write-done k' h' value is finished = midway-done whole runs mid k' h' (pos n) (write c v) c.number (subst (λ z. IsDone k1 h z k' h') is finished) ends-answer ends-keeps
              ((pipe_write s p l c x.fd f x.name n x.end x.pipe x.on x.writes x.number x.buffer).1 read over-is)

        module _ (short : moved < n) where
          short-is : nat_le n (now_moved c x.pipe n) ≡ false
          short-is = ap (nat_le n) (sym same-moved) ∙ lt-leb n moved short

          goes : write c v ≡ waits c (now_moved c x.pipe n) (pipes.table_written s p l x.fd f x.name x.end x.pipe x.on c n x.number x.writes x.buffer.0 x.buffer.1 x.buffer.2)
          goes = pipes.write_goes_on s p l x.fd f x.name x.end x.pipe x.on c n x.number x.writes x.buffer.0 x.buffer.1 x.buffer.2 read short-is

          pub waits-answer : (write c v).answer ≡ Blocked c.number
          waits-answer = ap (λ (o : Own). o.answer) goes

          waits-keeps : KeepsAll s (write c v)
          unfolding view_of
          waits-keeps = keeps-all goes (record { child = refl; stays = refl; pids = refl })

          abbrev d : Call
          d = record c { moved = now_moved c x.pipe n }

          abbrev asleep : Live
          asleep = update.in_call d l

          abbrev then : State
          then = changed_state p asleep s.files (insert s.pipes f after) s.console s.free s

          waits-law : After s p l (write c v) then
          waits-law = (pipe_write s p l c x.fd f x.name n x.end x.pipe x.on x.writes x.number x.buffer).2 read short-is

          for-room : c.number ≡ pos 16 → is_for (waits_for then p asleep) (on.Room f) ≡ true
          unfolding row_of
          for-room number =
              ap (λ z. is_for (row_waits_for then p asleep d (row_of z)) (on.Room f)) number
              ∙ ap (λ z. is_for (write_waits_for (target_at then asleep z)) (on.Room f)) x.number
              ∙ ap (λ b. is_for (write_waits_for (cond b (end_of then (get l.descriptors x.fd)) None)) (on.Room f)) (lt-ltb x.fd NOFILE x.on.below)
              ∙ ap (λ o. is_for (write_waits_for (end_of then o)) (on.Room f)) x.on.named_file
              ∙ ap (λ o. is_for (write_waits_for (target_of_open o)) (on.Room f)) x.on.opened
              ∙ eq-eqb f f refl

          unready : c.number ≡ pos 16 → l.killed ≡ false → l.call ≡ Some c → ready (view_of then p asleep) ≡ false
          unfolding view_of
          unready number unmarked busy = sleeps-unready s then p l asleep (write c v) c.number
              (law.resume s p l c unmarked busy ∙ is_write c v number) waits-answer waits-law.next (ap live_part (get_same s.processes p (Alive asleep)))

          pub write-waits : (k' : Kernel) (h' : Hart) → c.number ≡ pos 16 → l.killed ≡ false → l.call ≡ Some c
              → IsAsleep k1 h (record c { moved = moved }) (on.Room f) k' h' → Makes k h (write c v) k' h'
          write-waits k' h' number unmarked busy slept =
              midway-sleeps whole runs mid k' h' d (on.Room f) (write c v) c.number
              (subst (λ z. IsAsleep k1 h (record c { moved = z }) (on.Room f) k' h') same-moved slept)
              (write-keeps c (now_moved c x.pipe n) l.image n number x.buffer) waits-answer waits-keeps waits-law
              (for-room number, unready number unmarked busy)
