-- What stands of every step that ends in sleep, from the four rows that may wait.
use Rattle.kernel_spec.proofs.Prelude.{ℕ, ℤ, ◌&&◌, ◌++◌, ◌+◌, ◌-◌, ◌∙◌, ◌≡◌, ◌≢◌, after_instruction, Answer, ap, begun, Blocked, Bool, c_int, Call, call_begun, Called, change_pipe, cond, Descriptor}
use Rattle.kernel_spec.proofs.Prelude.{done, done_at, drop, Ecall, End, Exited, false, Fault, Faulted, fit, going_on, gone, has_bytes, has_child, has_passed, in_use, inl, inr, least_zombie, length}
use Rattle.kernel_spec.proofs.Prelude.{may, minus_one, nat_eq, nat_le, negsuc, Next, next_bytes, next_instruction, None, none-some, not, Option, Own, own, perform, Pipe, pos, program_bytes, Pulled}
use Rattle.kernel_spec.proofs.Prelude.{pulled, Read, readable, refl, refused, room_for, Row, row, row_of, Shown, Shown_file, Shown_pipe, Shown_terminal, Sleep, slice_get, Some, Step, sym, take, there}
use Rattle.kernel_spec.proofs.Prelude.{ticks_since, true, unless_killed, View, Wait, waits, with_more, without_first, writable, Write, write_image}
use Rattle.kernel_spec.proofs.calls.Facts.{Comes, may_wait}
use Rattle.kernel_spec.proofs.calls.All.{perform_facts}
use Rattle.kernel_spec.proofs.rows.RowParts.{IsSettled, length_of_int, perform_parts, perform_row, read_from, read_on, reaped, unless, wait_parts, moving, unless_nothing, write_on, write_to}
use Rattle.kernel_spec.proofs.rows.Touched.{touched_view}
use Rattle.kernel_spec.proofs.rows.ByTouch.{by_call, by_instruction}

-- a step that ends in sleep in the call of this number ends in a view of which Q holds
abbrev pub Falls : (View → ℤ → Type 0) → Own → Type 0
Falls Q o = (k : ℤ) (n : View) → o.answer ≡ Blocked k → o.next ≡ Some n → Q n k

-- a read or a write of n bytes by the descriptor d passes its tests: its mode, and whether its buffer is there
pub record Admitted (c : Call) (v : View) (d : Descriptor) (n : ℕ) (can buffer : Bool) : Type 0 where
  pub on : in_use v (c_int c.a0) ≡ Some d
  pub mode : not can ≡ false
  pub size : c_int c.a2 ≡ pos n
  pub some : nat_eq n 0 ≡ false
  pub room : not buffer ≡ false

abbrev pub Reads : Call → View → Descriptor → ℕ → Type 0
Reads c v d n = Admitted c v d n d.read (writable v.image c.a1 (length_of_int (c_int c.a2)))

abbrev pub Writes : Call → View → Descriptor → ℕ → Type 0
Writes c v d n = Admitted c v d n d.write (readable v.image c.a1 (length_of_int (c_int c.a2)))

-- Each end of a row in sleep is an end in a view of which Q holds, in a view v where no page of the call's buffer is absent
pub record Sleepers (Q : View → ℤ → Type 0) (c : Call) (v : View) : Type 0 where
  pub wait_here : row_of c.number ≡ Some Wait → (not (nat_eq c.a0 0) && not (writable v.image c.a0 4)) ≡ false → has_child v ≡ true → least_zombie v ≡ None → Falls Q (waits c 0 v)
  pub sleep_here : row_of c.number ≡ Some Sleep → not (has_passed (ticks_since v.clock c.clock) (c_int c.a0)) ≡ true → Falls Q (waits c 0 v)
  pub read_line_here : row_of c.number ≡ Some Read → (d : Descriptor) (n : ℕ) → Reads c v d n → d.shown ≡ Shown_terminal
      → let p : Pulled = pulled (nat_eq c.moved 0) (n - c.moved) v.console.committed in p.ended ≡ false
      → Falls Q (waits c (c.moved + length p.taken) (record v { image = write_image v.image (c.a1 + c.moved) p.taken; console = record v.console { committed = p.left } }))
  pub read_pipe_here : row_of c.number ≡ Some Read → (d : Descriptor) (n : ℕ) → Reads c v d n → (name : ℕ) (end : End) (pipe : Pipe) → d.shown ≡ Shown_pipe name end pipe
      → not (has_bytes pipe) ≡ true → Falls Q (waits c 0 v)
  pub write_line_here : row_of c.number ≡ Some Write → (d : Descriptor) (n : ℕ) → Writes c v d n → d.shown ≡ Shown_terminal
      → let k = room_for v.console (n - c.moved) in nat_le n (c.moved + k) ≡ false
      → Falls Q (waits c (c.moved + k) (record v { console = record v.console { to_send = v.console.to_send ++ next_bytes c v k } }))
  pub write_pipe_here : row_of c.number ≡ Some Write → (d : Descriptor) (n : ℕ) → Writes c v d n → (name : ℕ) (end : End) (pipe : Pipe) → d.shown ≡ Shown_pipe name end pipe
      → nat_eq pipe.readers 0 ≡ false → let k = fit pipe (n - c.moved) in nat_le n (c.moved + k) ≡ false
      → Falls Q (waits c (c.moved + k) (record v { descriptors = change_pipe name (with_more (next_bytes c v k) pipe) v.descriptors }))

module _ (Q : View → ℤ → Type 0) where
  falls_done : (c : Call) (value : ℤ) (v : View) → Falls Q (done c value v)
  falls_done c value v k n a e = let no : ⊥ = cc in absurd no

  falls_unless : (b : Bool) (c : Call) (v : View) (go : Unit {0} → Own) → (b ≡ false → Falls Q (go tt)) → Falls Q (unless b c v go)
  falls_unless true c v go h = falls_done c minus_one v
  falls_unless false c v go h = h refl

  falls_nothing : (b : Bool) (c : Call) (v : View) (go : Unit {0} → Own) → (b ≡ false → Falls Q (go tt)) → Falls Q (unless_nothing b c v go)
  falls_nothing true c v go h = falls_done c (pos 0) v
  falls_nothing false c v go h = h refl

  falls_moving : (c : Call) (v : View) (r : Bool) (z : ℤ) (go : ℕ → Own) → ((n : ℕ) → z ≡ pos n → nat_eq n 0 ≡ false → not r ≡ false → Falls Q (go n)) → Falls Q (moving c v r z go)
  falls_moving c v r (negsuc k) go h = falls_done c minus_one v
  falls_moving c v r (pos n) go h = falls_nothing (nat_eq n 0) c v (λ _. unless (not r) c v (λ _. go n)) (λ some. falls_unless (not r) c v (λ _. go n) (λ there. h n refl some there))

  falls_cond : (b : Bool) (x y : Own) → (b ≡ true → Falls Q x) → (b ≡ false → Falls Q y) → Falls Q (cond b x y)
  falls_cond true x y h g = h refl
  falls_cond false x y h g = g refl

  -- a call that is done
  ended : (o : Own) (number value : ℤ) → o.answer ≡ Called number value → Falls Q o
  ended o number value is k n a e = let no : Called number value ≡ Blocked k = sym is ∙ a in let bad : ⊥ = cc in absurd bad

  gone_never : (a : Answer) (v : View) → ((k : ℤ) → a ≢ Blocked k) → Falls Q (gone a v)
  gone_never a v h k n e f = absurd (h k e)

  -- what a step of a row that never waits comes to is no sleep
  never_falls : (c : Call) (v : View) (o : Own) → may_wait (row_of c.number) ≡ false → Comes c v o → Falls Q o
  never_falls c v o never (inl is) k n e f = let no : Called c.number minus_one ≡ Blocked k = sym (ap (λ (x : Own). x.answer) is) ∙ e in let bad : ⊥ = cc in absurd bad
  never_falls c v o never (inr (inl done)) k n e f = let no : Called c.number (pos done.value) ≡ Blocked k = sym done.answer ∙ e in let bad : ⊥ = cc in absurd bad
  never_falls c v o never (inr (inr (inl wait))) k n e f = let no : false ≡ true = sym never ∙ wait.row in let bad : ⊥ = cc in absurd bad
  never_falls c v o never (inr (inr (inr gone))) k n e f = absurd (none-some n (sym gone.next ∙ f))

  -- ---- the rows that may wait

  module _ (c : Call) (v : View) (s : Sleepers Q c v) where
    wait_falls : row_of c.number ≡ Some Wait → Falls Q (wait_parts c v)
    wait_falls row = falls_unless (not (nat_eq c.a0 0) && not (writable v.image c.a0 4)) c v (λ _. reaped c v (least_zombie v)) (λ room. by room (least_zombie v) refl)
      where
        by : (not (nat_eq c.a0 0) && not (writable v.image c.a0 4)) ≡ false → (o : Option ℕ) → least_zombie v ≡ o → Falls Q (reaped c v o)
        by room (Some q) e = ended (reaped c v (Some q)) c.number (pos q) refl
        by room None e = falls_cond (has_child v) (waits c 0 v) (refused c v) (λ child. s.wait_here row room child e) (λ _. falls_done c minus_one v)

    read_by : row_of c.number ≡ Some Read → (d : Descriptor) (n : ℕ) → Reads c v d n → (x : Shown) → d.shown ≡ x → Falls Q (read_from c v n d.file x)
    read_by row d n r Shown_terminal is =
        let p : Pulled = pulled (nat_eq c.moved 0) (n - c.moved) v.console.committed in
        let after : View = record v { image = write_image v.image (c.a1 + c.moved) p.taken; console = record v.console { committed = p.left } } in
        falls_cond p.ended (done c (pos (c.moved + length p.taken)) after) (waits c (c.moved + length p.taken) after)
        (λ _. falls_done c (pos (c.moved + length p.taken)) after) (λ over. s.read_line_here row d n r is over)
    read_by row d n r (Shown_file program offset) is =
        ended (read_from c v n d.file (Shown_file program offset)) c.number (pos (length (take n (drop offset (program_bytes (slice_get v.programs program)))))) refl
    read_by row d n r (Shown_pipe name end pipe) is =
        let k = there pipe n in
        let after : View = record v { image = write_image v.image c.a1 (take k pipe.bytes); descriptors = change_pipe name (without_first k pipe) v.descriptors } in
        falls_cond (not (has_bytes pipe)) (waits c 0 v) (done c (pos k) after) (s.read_pipe_here row d n r name end pipe is) (λ _. falls_done c (pos k) after)

    read_falls : row_of c.number ≡ Some Read → (o : Option Descriptor) → in_use v (c_int c.a0) ≡ o → Falls Q (read_on c v o)
    read_falls row None on = falls_done c minus_one v
    read_falls row (Some d) on = falls_unless (not d.read) c v _ (λ can. falls_moving c v (writable v.image c.a1 (length_of_int (c_int c.a2))) (c_int c.a2)
        (λ n. read_from c v n d.file d.shown) (λ n size some room. read_by row d n (record { on = on; mode = can; size = size; some = some; room = room }) d.shown refl))

    write_by : row_of c.number ≡ Some Write → (d : Descriptor) (n : ℕ) → Writes c v d n → (x : Shown) → d.shown ≡ x → Falls Q (write_to c v n x)
    write_by row d n w Shown_terminal is =
        let k = room_for v.console (n - c.moved) in
        let after : View = record v { console = record v.console { to_send = v.console.to_send ++ next_bytes c v k } } in
        falls_cond (nat_le n (c.moved + k)) (done c (pos n) after) (waits c (c.moved + k) after) (λ _. falls_done c (pos n) after) (λ more. s.write_line_here row d n w is more)
    write_by row d n w (Shown_file program offset) is = falls_done c minus_one v
    write_by row d n w (Shown_pipe name end pipe) is =
        let k = fit pipe (n - c.moved) in
        let after : View = record v { descriptors = change_pipe name (with_more (next_bytes c v k) pipe) v.descriptors } in
        falls_unless (nat_eq pipe.readers 0) c v (λ _. done_at c n (c.moved + k) after) (λ readers.
        falls_cond (nat_le n (c.moved + k)) (done c (pos n) after) (waits c (c.moved + k) after) (λ _. falls_done c (pos n) after)
        (λ more. s.write_pipe_here row d n w name end pipe is readers more))

    write_falls : row_of c.number ≡ Some Write → (o : Option Descriptor) → in_use v (c_int c.a0) ≡ o → Falls Q (write_on c v o)
    write_falls row None on = falls_done c minus_one v
    write_falls row (Some d) on = falls_unless (not d.write) c v _ (λ can. falls_moving c v (readable v.image c.a1 (length_of_int (c_int c.a2))) (c_int c.a2)
        (λ n. write_to c v n d.shown) (λ n size some room. write_by row d n (record { on = on; mode = can; size = size; some = some; room = room }) d.shown refl))

    by_row : (r : Option Row) → row_of c.number ≡ r → may_wait r ≡ true → Falls Q (perform_row c v r)
    unfolding perform_row
    by_row (Some Wait) e may = wait_falls e
    by_row (Some Read) e may = read_falls e (in_use v (c_int c.a0)) refl
    by_row (Some Sleep) e may = falls_cond (not (has_passed (ticks_since v.clock c.clock) (c_int c.a0))) (waits c 0 v) (done c (pos 0) v) (s.sleep_here e) (λ _. falls_done c (pos 0) v)
    by_row (Some Write) e may = write_falls e (in_use v (c_int c.a0)) refl
    by_row _ e may = let no : ⊥ = cc in absurd no

    parts_fall : may_wait (row_of c.number) ≡ true → Falls Q (perform_parts c v)
    unfolding perform_parts
    parts_fall may = by_row (row_of c.number) refl may

  module _ (given : (c : Call) (v : View) → v.killed ≡ false → IsSettled c v → Sleepers Q c v) where
    pub perform_falls : (c : Call) (v : View) → v.killed ≡ false → Falls Q (perform c v)
    perform_falls c v alive = by (may_wait (row_of c.number)) refl
      where
        by : (b : Bool) → may_wait (row_of c.number) ≡ b → Falls Q (perform c v)
        by true may = by_call (Falls Q) c v (falls_done c minus_one v) (λ image free touched settled. parts_fall c (touched_view v image free) (given c (touched_view v image free) alive settled) may)
        by false never = never_falls c v (perform c v) never (perform_facts c v).comes

    -- ---- a step

    module _ (v : View) where
      instruction_falls : v.killed ≡ false → (st : Step) → Falls Q (after_instruction v st)
      instruction_falls alive (Next r st) = λ k n a e. let no : ⊥ = cc in absurd no
      instruction_falls alive Ecall = perform_falls (call_begun v) (begun v) alive
      instruction_falls alive (Fault cause) = gone_never (Faulted cause) v (λ k a. let no : ⊥ = cc in no)

    module _ (v : View) where
      going_falls : v.killed ≡ false → (o : Option Call) → v.call ≡ o → Falls Q (going_on v o)
      going_falls alive None e = by_instruction (λ st o. Falls Q o) v (λ image free touched. instruction_falls (touched_view v image free) alive (next_instruction v.regs image))
      going_falls alive (Some c) e = perform_falls c v alive

      unless_falls : (b : Bool) → v.killed ≡ b → Falls Q (unless_killed v b)
      unless_falls true e = gone_never (Exited minus_one) v (λ k a. let no : ⊥ = cc in no)
      unless_falls false e = going_falls e v.call refl

      -- of a step
      pub own_falls : Falls Q (own v)
      unfolding own
      own_falls = unless_falls v.killed refl
