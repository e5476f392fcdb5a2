-- A write to the terminal, as the code goes through it.
use Rattle.kcall_core.proofs.Prelude.{ℕ, ℤ, ◌%◌, ◌+◌, ◌-◌, ◌<◌, ◌^◌, ◌∙◌, ◌≡◌, ◌≤◌, After, Alive, ap, arith, Blocked, Call, Called, cases_lt, changed_state, cond, Console, done, each_of, end_of}
use Rattle.kcall_core.proofs.Prelude.{false, free_of, get, get_or, get_same, Hart, HasMemory, held_at, held_cost, image_bytes, inl, inr, is_for, IsRunning, IsWhole, IsWithinLimits, Kernel}
use Rattle.kcall_core.proofs.Prelude.{le-leb, le-ltb, length, length-append, List, Live, live_now, live_part, lt-leb, lt-ltb, ltb-false, Makes, nat_le, NOFILE, None, numbered, or_nothing, Own}
use Rattle.kcall_core.proofs.Prelude.{pid_now, pos, readable, ready, refl, rename_shown, room_for, row_of, row_waits_for, SEND_BYTES, set, set-get_or, show, slot_now, SlotChanges, Some, State}
use Rattle.kcall_core.proofs.Prelude.{state_of, subst, sym, target_at, target_of_open, the_value, true, View, view_now, view_of, waits, waits_for, with_image, with_sent, write, write_case, write_to}
use Rattle.kcall_core.proofs.Prelude.{write_waits_for, WritesTerminal}
use Rattle.kcall_core.proofs.table.States.{running}
use Rattle.kcall_core.proofs.turns.Turned.{live-is}
use Rattle.kcall_core.proofs.memory.PipeRest.{next-read, rest-read}
use Rattle.kcall_core.proofs.turns.StepSlots.{KeepsAll}
use Rattle.kcall_core.proofs.making.CallAnswers.{IsDone}
use Rattle.kcall_core.proofs.making.Buffers.{write-keeps}
use Rattle.kcall_core.proofs.making.Midway.{WakeOn, IsAsleep, midway-done, midway-sleeps}
use Rattle.kcall_core.proofs.making.Moved.{nobody, sleeps-unready}
use Rattle.kcall_core.proofs.files.MovingRows.{shown-at, shown-there}
use Rattle.kcall_core.proofs.files.TerminalMoves.{Moving, moving-midway}
use Rattle.proc_table.specs.declared.channel.Channel.TheVariants as on
use Rattle.kernel_spec.specs.steps.Updates as update
use Rattle.kernel_spec.proofs.steps.AloneLawsHold as law
use Rattle.kernel_spec.proofs.calls.write.{is_write}

module _ {k : Kernel} {h : Hart} {c : Call} {n : ℕ} (whole : IsWhole k h) (runs : IsRunning k) (x : WritesTerminal k h c n) where
  abbrev s : State
  s = state_of k h

  abbrev p : ℕ
  p = pid_now k

  abbrev l : Live
  l = live_now k h

  abbrev v : View
  v = view_now k h

  abbrev left : ℕ
  left = n - c.moved

  abbrev count : ℕ
  count = room_for s.console left

  -- how many bytes are moved by then
  abbrev moves : ℕ
  moves = c.moved + count

  abbrev bytes : List ℕ
  bytes = image_bytes l.image (c.a1 + c.moved) count

  abbrev console : Console
  console = with_sent bytes s.console

  abbrev sent : View
  sent = record v { console = console }

  row : write c v ≡ cond (nat_le n moves) (done c (pos n) sent) (waits c moves sent)
  unfolding view_of
  row =
      write_case c v (shown-at whole runs x.on) x.on.fd n x.on.number (shown-there whole runs x.on) x.on.buffer.0 x.on.buffer.1 x.writes x.on.buffer.2
      ∙ ap (λ t. write_to c v n (rename_shown (numbered s l) (show s t))) x.is

  keeps-all : {o u : Own} → o ≡ u → KeepsAll s u → KeepsAll s o
  keeps-all e keeps = subst (KeepsAll s) (sym e) keeps

  its-memory : HasMemory (each_of k.memories) (slot_now k)
  its-memory = let r = running k h whole.sound runs in whole.sound.lives (slot_now k) r.is.process r.is.is r.is.live

  -- the rest of the buffer is there, wherever the sum of two words lies
  pub rest-there : (slot : ℕ) → slot ≡ slot_now k → (at : ℕ) → at ≡ (c.a1 + c.moved) % 2 ^ 64 → (m : ℕ) → m ≡ left → readable (held_at (each_of k.memories) slot).image at m ≡ true
  rest-there slot same at at-is m m-is = rest-read k.memories (slot_now k) c.a1 n c.moved whole.sound.memories its-memory x.on.buffer.2 at at-is slot same m m-is

  -- nobody wakes
  wake : WakeOn nobody s.pipes s.pipes s.console console
  wake = record {
    bytes = λ i shut. sym shut;
    room = λ i shut. sym shut;
    keys = λ shut. sym shut;
    sending = λ shut. let full = ltb-false (length s.console.to_send) SEND_BYTES shut in sym (le-ltb (length console.to_send) SEND_BYTES (omega (arith, full, length-append s.console.to_send bytes)));
    children = λ q. refl;
    clock = refl;
  }

  -- the process's memory stays
  same-held : Some (held_at (each_of k.memories) (slot_now k)) ≡ get_or (each_of k.memories) (slot_now k) None
  same-held = let (held, is) = the_value (get_or (each_of k.memories) (slot_now k) None) its-memory in ap (λ o. Some (or_nothing o)) is ∙ sym is

  unchanged : SlotChanges k.memories k.memories (slot_now k) (Some (with_image l.image (held_at (each_of k.memories) (slot_now k))))
  unchanged = record {
    sound = whole.sound.memories;
    each = sym (ap (λ o. set (each_of k.memories) (slot_now k) o) same-held ∙ set-get_or (each_of k.memories) (slot_now k) None);
    pipes = refl;
    free = ap (λ o. free_of k.memories + held_cost o) same-held;
    frames = refl;
    runs = λ other hart ne r. r;
  }

  module _ (slot : ℕ) (slot-is : slot ≡ slot_now k) (at : ℕ) (at-is : at ≡ (c.a1 + c.moved) % 2 ^ 64) (told-left : ℕ)
      (told-left-is : told-left ≡ left) (told : ℕ) (told-is : told ≡ room_for k.console told-left)
      (k1 : Kernel) (rest : k1 ≡ record k { console = with_sent (image_bytes (held_at (each_of k.memories) slot).image at told) k.console }) (limits : IsWithinLimits k1.console) where
    told-count : told ≡ count
    unfolding state_of
    told-count = told-is ∙ ap (room_for k.console) told-left-is

    same-bytes : image_bytes (held_at (each_of k.memories) slot).image at told ≡ bytes
    same-bytes = elim (cases_lt c.moved n) [
      | inl less ↦
          let here : at ≡ c.a1 + c.moved = next-read k.memories (slot_now k) c.a1 n c.moved whole.sound.memories its-memory x.on.buffer.2 at at-is less in
          (λ i. image_bytes (held_at (each_of k.memories) (slot-is i)).image (here i) (told-count i))
      | inr over ↦
          let none : count ≡ 0 = omega (arith, over) in
          (λ i. image_bytes (held_at (each_of k.memories) slot).image at ((told-count ∙ none) i)) ∙ (λ i. image_bytes l.image (c.a1 + c.moved) (sym none i))
    ]

    kernel-is : k1 ≡ record k { console = console }
    unfolding state_of
    kernel-is = rest ∙ ap (λ bs. record k { console = with_sent bs k.console }) same-bytes

    moving : Moving k h k.memories l.image console
    moving = record {
      written = unchanged;
      free = refl;
      runs = (running k h whole.sound runs).is.runs;
      paid = refl;
      limits = subst (λ (y : Kernel). IsWithinLimits y.console) kernel-is limits;
      wake = wake;
    }

    pub told-moves : c.moved + told ≡ moves
    told-moves = ap (λ z. c.moved + z) told-count

    -- all bytes are in
    module _ (over : n ≤ c.moved + told) where
      over-is : nat_le n moves ≡ true
      over-is = ap (nat_le n) (sym told-moves) ∙ le-leb n (c.moved + told) over

      ends : write c v ≡ done c (pos n) sent
      ends = row ∙ ap (λ b. cond b (done c (pos n) sent) (waits c moves sent)) over-is

      pub ends-answer : (write c v).answer ≡ Called c.number (pos n)
      ends-answer = ap (λ (o : Own). o.answer) ends

      ends-keeps : KeepsAll s (write c v)
      unfolding view_of
      ends-keeps = keeps-all ends (record { child = refl; stays = refl; pids = refl })

      ends-law : After s p l (write c v) (changed_state p (update.with_answer (pos n) l) s.files s.pipes console s.free s)
      unfolding view_of
      ends-law = subst (λ o. After s p l o (changed_state p (update.with_answer (pos n) l) s.files s.pipes console s.free s)) (sym ends)
          (law.answer s p l c (pos n) l.image console s.free (live-is k h whole.sound runs))

      pub send-done : (k' : Kernel) (h' : Hart) (value : ℤ) → value ≡ pos n → IsDone k1 h value k' h' → Makes k h (write c v) k' h'
      send-done k' h' value is finished =
          midway-done whole runs (moving-midway whole runs moving) k' h' (pos n) (write c v) c.number
          (subst (λ (z : Kernel × ℤ). IsDone z.0 h z.1 k' h') (λ i. (kernel-is i, is i)) finished) ends-answer ends-keeps ends-law

    -- some aren't yet
    module _ (short : c.moved + told < n) where
      short-is : nat_le n moves ≡ false
      short-is = ap (nat_le n) (sym told-moves) ∙ lt-leb n (c.moved + told) short

      goes-on : write c v ≡ waits c moves sent
      goes-on = row ∙ ap (λ b. cond b (done c (pos n) sent) (waits c moves sent)) short-is

      pub waits-answer : (write c v).answer ≡ Blocked c.number
      waits-answer = ap (λ (o : Own). o.answer) goes-on

      waits-keeps : KeepsAll s (write c v)
      unfolding view_of
      waits-keeps = keeps-all goes-on (record { child = refl; stays = refl; pids = refl })

      abbrev d : Call
      d = record c { moved = moves }

      abbrev asleep : Live
      asleep = update.in_call d l

      abbrev then : State
      then = changed_state p asleep s.files s.pipes console s.free s

      waits-law : After s p l (write c v) then
      unfolding view_of
      waits-law = subst (λ o. After s p l o then) (sym goes-on) (law.waiting s p l c moves l.image console s.free (live-is k h whole.sound runs))

      for-sending : c.number ≡ pos 16 → is_for (waits_for then p asleep) on.Sending ≡ true
      unfolding row_of
      for-sending number =
          ap (λ z. is_for (row_waits_for then p asleep d (row_of z)) on.Sending) number
          ∙ ap (λ z. is_for (write_waits_for (target_at then asleep z)) on.Sending) x.on.number
          ∙ ap (λ b. is_for (write_waits_for (cond b (end_of then (get l.descriptors x.on.fd)) None)) on.Sending) (lt-ltb x.on.fd NOFILE x.on.below)
          ∙ ap (λ o. is_for (write_waits_for (end_of then o)) on.Sending) x.on.named_file
          ∙ ap (λ o. is_for (write_waits_for (target_of_open o)) on.Sending) x.on.opened
          ∙ ap (λ t. is_for (write_waits_for (Some t)) on.Sending) x.is

      unready : c.number ≡ pos 16 → l.killed ≡ false → l.call ≡ Some c → ready (view_of then p asleep) ≡ false
      unfolding view_of
      unready number unmarked busy = sleeps-unready s then p l asleep (write c v) c.number
          (law.resume s p l c unmarked busy ∙ is_write c v number) waits-answer waits-law.next (ap live_part (get_same s.processes p (Alive asleep)))

      pub send-waits : (k' : Kernel) (h' : Hart) (moved : ℕ) → moved ≡ c.moved + told → c.number ≡ pos 16 → l.killed ≡ false → l.call ≡ Some c
          → IsAsleep k1 h (record c { moved = moved }) on.Sending k' h' → Makes k h (write c v) k' h'
      send-waits k' h' moved is number unmarked busy slept =
          midway-sleeps whole runs (moving-midway whole runs moving) k' h' d on.Sending (write c v) c.number
          (subst (λ (z : Kernel × ℕ). IsAsleep z.0 h (record c { moved = z.1 }) on.Sending k' h') (λ i. (kernel-is i, (is ∙ told-moves) i)) slept)
          (write-keeps c moves l.image n number x.on.buffer) waits-answer waits-keeps waits-law (for-sending number, unready number unmarked busy)
