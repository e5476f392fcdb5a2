-- A read from the terminal, as the code goes through it.
use Rattle.kcall_core.proofs.Prelude.{[], ℕ, ℤ, ◌%◌, ◌+◌, ◌-◌, ◌^◌, ◌∙◌, ◌≡◌, ◌≤◌, After, Alive, ap, arith, Blocked, Bool, Call, Called, cases_lt, changed_state, cond, Console, done, each_of, end_of}
use Rattle.kcall_core.proofs.Prelude.{false, first_bytes, free_of, get, get_same, Hart, HasMemory, held_at, Image, inl, inr, is_for, IsRunning, IsSound, IsWhole, IsWithinLimits, Kernel}
use Rattle.kcall_core.proofs.Prelude.{le-leb, length, line_length, List, Live, live_now, live_part, lt-ltb, Makes, Memories, name_of_file, nat_eq, nat_le, nat_lt, next_line, no_bytes, NOFILE, None}
use Rattle.kcall_core.proofs.Prelude.{numbered, Own, pid_now, pos, Pulled, pulled, read, read_case, read_from, read_waits_for, ReadsTerminal, ready, refl, rename_shown, row_of, row_waits_for, RunsIn}
use Rattle.kcall_core.proofs.Prelude.{show, slice_get, slot_now, SlotChanges, Some, State, state_of, Store, subst, sym, target_at, target_of_open, true, up_to, View, view_now, view_of, waits}
use Rattle.kcall_core.proofs.Prelude.{waits_for, with_image, without_line, writable_now, write_image}
use Rattle.std.proofs.Math.Seq.{drop-nil}
use Rattle.xk_base.proofs.Bytes.{write_image-nil}
use Rattle.kcall_core.proofs.table.States.{running}
use Rattle.kcall_core.proofs.turns.Turned.{live-is}
use Rattle.kcall_core.proofs.memory.PipeRest.{next-at, rest-reached}
use Rattle.kcall_core.proofs.turns.StepSlots.{KeepsAll}
use Rattle.kcall_core.proofs.making.CallAnswers.{IsDone}
use Rattle.kcall_core.proofs.making.Buffers.{read-keeps}
use Rattle.kcall_core.proofs.making.Midway.{WakeOn, IsAsleep, midway-done, midway-sleeps}
use Rattle.kcall_core.proofs.making.Moved.{nobody, sleeps-unready}
use Rattle.kcall_core.proofs.files.MovingRows.{shown-at, shown-there}
use Rattle.kcall_core.proofs.files.TerminalMoves.{Moving, moving-sound, moving-midway}
use Rattle.proc_table.specs.declared.channel.Channel.TheVariants as on
use Rattle.kernel_spec.specs.steps.Updates as update
use Rattle.kernel_spec.proofs.steps.AloneLawsHold as law
use Rattle.kernel_spec.proofs.well.WellLaws as well
use Rattle.kernel_spec.proofs.calls.read.{is_read}

-- ---- what a read takes and leaves

-- of no bytes none are left
none-left : (first : Bool) (n : ℕ) → (pulled first n []).left ≡ []
none-left first n = by (nat_le n 0)
  where
    by : (b : Bool) → (cond b (first_bytes n true []) (up_to first [] 0 None)).left ≡ []
    by true = drop-nil n
    by false = refl

-- a read that has no room takes nothing
none-taken : (first : Bool) (n : ℕ) (bytes : List ℕ) → n ≡ 0 → (pulled first n bytes).taken ≡ []
none-taken first n bytes e =
    ap (λ z. (pulled first z bytes).taken) e
    ∙ ap (λ b. (cond b (first_bytes 0 true bytes) (up_to first bytes (line_length bytes) (slice_get bytes (line_length bytes)))).taken) (le-leb 0 (line_length bytes) (omega arith))

module _ {k : Kernel} {h : Hart} {c : Call} {n : ℕ} (whole : IsWhole k h) (runs : IsRunning k) (x : ReadsTerminal k h c n) where
  abbrev s : State
  s = state_of k h

  abbrev p : ℕ
  p = pid_now k

  abbrev l : Live
  l = live_now k h

  abbrev v : View
  v = view_now k h

  abbrev left : ℕ
  left = n - c.moved

  abbrev line : Pulled
  line = next_line s.console c.moved left

  -- how many bytes are moved by then
  abbrev count : ℕ
  count = c.moved + length line.taken

  abbrev image : Image
  image = write_image l.image (c.a1 + c.moved) line.taken

  abbrev console : Console
  console = without_line line s.console

  abbrev taken : View
  taken = record v { image = image; console = console }

  row : read c v ≡ cond line.ended (done c (pos count) taken) (waits c count taken)
  unfolding view_of
  row =
      read_case c v (shown-at whole runs x.on) x.on.fd n x.on.number (shown-there whole runs x.on) x.on.buffer.0 x.on.buffer.1 x.reads x.on.buffer.2
      ∙ ap (λ t. read_from c v n (name_of_file s l x.file) (rename_shown (numbered s l) (show s t))) x.is

  keeps-all : {o u : Own} → o ≡ u → KeepsAll s u → KeepsAll s o
  keeps-all e keeps = subst (KeepsAll s) (sym e) keeps

  its-memory : HasMemory (each_of k.memories) (slot_now k)
  its-memory = let r = running k h whole.sound runs in whole.sound.lives (slot_now k) r.is.process r.is.is r.is.live

  -- the rest of the buffer is there, wherever the sum of two words lies
  pub rest-there : (slot : ℕ) → slot ≡ slot_now k → (at : ℕ) → at ≡ (c.a1 + c.moved) % 2 ^ 64 → (m : ℕ) → m ≡ left → writable_now (held_at (each_of k.memories) slot).image at m ≡ true
  rest-there slot same at at-is m m-is = rest-reached Store k.memories (slot_now k) c.a1 n c.moved its-memory x.on.buffer.2 at at-is slot same m m-is

  pub keys-few : length k.console.committed ≤ 128
  unfolding state_of
  keys-few = omega (arith, whole.well.keys)

  -- nobody wakes
  wake : WakeOn nobody s.pipes s.pipes s.console console
  wake = record {
    bytes = λ i shut. sym shut;
    room = λ i shut. sym shut;
    keys = λ shut. sym (ap (λ xs. nat_lt 0 (length (pulled (nat_eq c.moved 0) left xs).left)) (no_bytes s.console.committed shut)
        ∙ ap (λ xs. nat_lt 0 (length xs)) (none-left (nat_eq c.moved 0) left));
    sending = λ shut. sym shut;
    children = λ q. refl;
    clock = refl;
  }

  module _ (m : Memories) (slot : ℕ) (slot-is : slot ≡ slot_now k) (at : ℕ) (at-is : at ≡ (c.a1 + c.moved) % 2 ^ 64) (told-left : ℕ) (told-left-is : told-left ≡ left)
      (written : SlotChanges k.memories m slot (Some (with_image
      (write_image (held_at (each_of k.memories) slot).image at (next_line k.console c.moved told-left).taken) (held_at (each_of k.memories) slot))))
      (free : free_of m ≡ free_of k.memories) (keeps-runs : (hart : Hart) → RunsIn k.memories slot hart → RunsIn m slot hart)
      (k1 : Kernel) (rest : k1 ≡ record k { memories = m; console = without_line (next_line k.console c.moved told-left) k.console }) (limits : IsWithinLimits k1.console) where
    pub same-line : next_line k.console c.moved told-left ≡ line
    unfolding state_of
    same-line = ap (next_line k.console c.moved) told-left-is

    image-is : write_image (held_at (each_of k.memories) slot).image at (next_line k.console c.moved told-left).taken ≡ image
    image-is = elim (cases_lt c.moved n) [
      | inl less ↦
          let here : at ≡ c.a1 + c.moved = next-at Store k.memories (slot_now k) c.a1 n c.moved its-memory x.on.buffer.2 at at-is less in
          (λ i. write_image (held_at (each_of k.memories) (slot-is i)).image (here i) (same-line i).taken)
      | inr over ↦
          let none : line.taken ≡ [] = none-taken (nat_eq c.moved 0) left s.console.committed (omega (arith, over)) in
          ap (λ (y : Pulled). write_image (held_at (each_of k.memories) slot).image at y.taken) same-line
          ∙ ap (write_image (held_at (each_of k.memories) slot).image at) none ∙ write_image-nil (held_at (each_of k.memories) slot).image at
          ∙ ap (λ j. (held_at (each_of k.memories) j).image) slot-is
          ∙ sym (ap (write_image l.image (c.a1 + c.moved)) none ∙ write_image-nil l.image (c.a1 + c.moved))
    ]

    kernel-is : k1 ≡ record k { memories = m; console = console }
    unfolding state_of
    kernel-is = rest ∙ ap (λ y. record k { memories = m; console = without_line y k.console }) same-line

    moving : Moving k h m image console
    moving = record {
      written = subst (λ (z : ℕ × Image). SlotChanges k.memories m z.0 (Some (with_image z.1 (held_at (each_of k.memories) z.0)))) (λ i. (slot-is i, image-is i)) written;
      free = free;
      runs = subst (λ z. RunsIn m z h) slot-is (keeps-runs h (subst (λ z. RunsIn k.memories z h) (sym slot-is) (running k h whole.sound runs).is.runs));
      paid = well.writes_take_nothing l.image (c.a1 + c.moved) line.taken;
      limits = subst (λ (y : Kernel). IsWithinLimits y.console) kernel-is limits;
      wake = wake;
    }

    pub line-sound : IsSound k1 h
    line-sound = subst (λ y. IsSound y h) (sym kernel-is) (moving-sound whole runs moving)

    module _ (told : ℕ) (told-is : told ≡ length (next_line k.console c.moved told-left).taken) (over : Bool) (over-is : over ≡ (next_line k.console c.moved told-left).ended) where
      told-count : c.moved + told ≡ count
      told-count = ap (λ z. c.moved + z) (told-is ∙ ap (λ (y : Pulled). length y.taken) same-line)

      told-ended : over ≡ line.ended
      told-ended = over-is ∙ ap (λ (y : Pulled). y.ended) same-line

      -- the line ends
      module _ (ended : over ≡ true) where
        ends : read c v ≡ done c (pos count) taken
        ends = row ∙ ap (λ b. cond b (done c (pos count) taken) (waits c count taken)) (sym told-ended ∙ ended)

        pub ends-answer : (read c v).answer ≡ Called c.number (pos (c.moved + told))
        ends-answer = ap (λ (o : Own). o.answer) ends ∙ ap (λ z. Called c.number (pos z)) (sym told-count)

        ends-keeps : KeepsAll s (read c v)
        unfolding view_of
        ends-keeps = keeps-all ends (record { child = refl; stays = refl; pids = refl })

        ends-law : After s p l (read c v) (changed_state p (update.with_answer (pos count) (record l { image = image })) s.files s.pipes console s.free s)
        unfolding view_of
        ends-law = subst (λ o. After s p l o (changed_state p
            (update.with_answer (pos count) (record l { image = image })) s.files s.pipes console s.free s)) (sym ends)
            (law.answer s p l c (pos count) image console s.free (live-is k h whole.sound runs))

        pub line-done : (k' : Kernel) (h' : Hart) (value : ℤ) → value ≡ pos (c.moved + told) → IsDone k1 h value k' h' → Makes k h (read c v) k' h'
        line-done k' h' value is finished =
            midway-done whole runs (moving-midway whole runs moving) k' h' (pos count) (read c v) c.number
            (subst (λ (z : Kernel × ℤ). IsDone z.0 h z.1 k' h') (λ i. (kernel-is i, (is ∙ ap pos told-count) i)) finished)
            (ap (λ (o : Own). o.answer) ends) ends-keeps ends-law

      -- more is to come
      module _ (short : over ≡ false) where
        goes-on : read c v ≡ waits c count taken
        goes-on = row ∙ ap (λ b. cond b (done c (pos count) taken) (waits c count taken)) (sym told-ended ∙ short)

        pub waits-answer : (read c v).answer ≡ Blocked c.number
        waits-answer = ap (λ (o : Own). o.answer) goes-on

        waits-keeps : KeepsAll s (read c v)
        unfolding view_of
        waits-keeps = keeps-all goes-on (record { child = refl; stays = refl; pids = refl })

        abbrev d : Call
        d = record c { moved = count }

        abbrev asleep : Live
        asleep = update.in_call d (record l { image = image })

        abbrev then : State
        then = changed_state p asleep s.files s.pipes console s.free s

        waits-law : After s p l (read c v) then
        unfolding view_of
        waits-law = subst (λ o. After s p l o then) (sym goes-on) (law.waiting s p l c count image console s.free (live-is k h whole.sound runs))

        for-keys : c.number ≡ pos 5 → is_for (waits_for then p asleep) on.Keys ≡ true
        unfolding row_of
        for-keys number =
            ap (λ z. is_for (row_waits_for then p asleep d (row_of z)) on.Keys) number
            ∙ ap (λ z. is_for (read_waits_for (target_at then asleep z)) on.Keys) x.on.number
            ∙ ap (λ b. is_for (read_waits_for (cond b (end_of then (get l.descriptors x.on.fd)) None)) on.Keys) (lt-ltb x.on.fd NOFILE x.on.below)
            ∙ ap (λ o. is_for (read_waits_for (end_of then o)) on.Keys) x.on.named_file
            ∙ ap (λ o. is_for (read_waits_for (target_of_open o)) on.Keys) x.on.opened
            ∙ ap (λ t. is_for (read_waits_for (Some t)) on.Keys) x.is

        unready : c.number ≡ pos 5 → l.killed ≡ false → l.call ≡ Some c → ready (view_of then p asleep) ≡ false
        unfolding view_of
        unready number unmarked busy = sleeps-unready s then p l asleep (read c v) c.number
            (law.resume s p l c unmarked busy ∙ is_read c v number) waits-answer waits-law.next (ap live_part (get_same s.processes p (Alive asleep)))

        pub line-waits : (k' : Kernel) (h' : Hart) (moved : ℕ) → moved ≡ c.moved + told → c.number ≡ pos 5 → l.killed ≡ false → l.call ≡ Some c
            → IsAsleep k1 h (record c { moved = moved }) on.Keys k' h' → Makes k h (read c v) k' h'
        line-waits k' h' moved is number unmarked busy slept =
            midway-sleeps whole runs (moving-midway whole runs moving) k' h' d on.Keys (read c v) c.number
            (subst (λ (z : Kernel × ℕ). IsAsleep z.0 h (record c { moved = z.1 }) on.Keys k' h') (λ i. (kernel-is i, (is ∙ told-count) i)) slept)
            (read-keeps c count l.image n (c.a1 + c.moved) line.taken number x.on.buffer) waits-answer waits-keeps waits-law (for-keys number, unready number unmarked busy)
