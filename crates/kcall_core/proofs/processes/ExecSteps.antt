-- The call exec, in the words of its row: the program is another, or nothing but the answer.
use Rattle.kcall_core.proofs.Prelude.{ℕ, ℤ, ◌%◌, ◌+◌, ◌-◌, ◌<◌, ◌∙◌, ◌≡◌, ◌≤◌, A1, answer_of, ap, ARG_BYTES, arith, Asks, Call, Called, CallEnd, cast_signed, cast_unsigned, changed_at, done, each_of}
use Rattle.kcall_core.proofs.Prelude.{Entry, exec, free_of, Hart, held_at, IsRunning, IsSound, IsWhole, Kernel, le-ltb, List, live_now, Loaded, Makes, map, Memories, minus_one, named_file, None}
use Rattle.kcall_core.proofs.Prelude.{Option, Own, own_state, pid_now, pos, price, ProgramFile, refl, refused, Registers, running, RunsIn, Same, slot_now, SlotChanges, Some, SP, started, state_of}
use Rattle.kcall_core.proofs.Prelude.{subst, sym, to_z_pos, unless, View, view_now, view_of, with_answer, with_image, with_pc}
use Rattle.std.proofs.Common.{lt-ltb}
use Rattle.std.specs.Int.{w64}
use Rattle.rv64i_core.specs.Registers.{put}
use Rattle.kcall_core.specs.declared.call_end.CallEnd.TheVariants.{Done}
use Rattle.kcall_core.proofs.table.States.{runs-same}
use Rattle.kcall_core.proofs.processes.ExecRow.{exec_asked, exec-is}
use Rattle.kcall_core.proofs.processes.Asking.{asked-few, asked, asks-given, asks-of}
use Rattle.kcall_core.proofs.making.Prepared.{Prepared, over, prepared-anew, prepared-same, prepared-makes}
use Rattle.proc_table.specs.Processes as process

-- the memories now hold the program that was asked for, and the hart uses its tables
abbrev pub Replaced : Memories → Memories → List ProgramFile → (slot path pointers : ℕ) → Entry → Hart → Type 0
Replaced old new programs slot path pointers start hart =
    (l : Loaded) × Asks programs (held_at (each_of old) slot).image path pointers l × (start ≡ record { pc = l.pc; sp = l.sp; argc = l.argc }) × (l.pc % 4 ≡ 0) × (price l.image ≤ free_of old)
    × SlotChanges old new slot (Some (with_image l.image (held_at (each_of old) slot))) × RunsIn new slot hart

-- nothing changed, since no program was asked for that the free frames hold
abbrev pub Unreplaced : Memories → Memories → List ProgramFile → (slot path pointers : ℕ) → Hart → Hart → Type 0
Unreplaced old new programs slot path pointers hart hart' =
    ((l : Loaded) → Asks programs (held_at (each_of old) slot).image path pointers l → free_of old < price l.image) × Same old new × (hart' ≡ hart)

-- the registers with which a program starts
abbrev pub begun : Registers → Entry → Registers
begun regs start = with_pc (put (put regs SP start.sp) A1 start.sp) start.pc

-- ---- the row, by the program that is asked for

module _ (c : Call) (v : View) where
  cheap : (l : Loaded) → price l.image ≤ v.free → exec_asked c v (Some l) ≡ done c (pos l.argc) (running l v)
  cheap l fits = ap (λ b. unless b c v (λ _. done c (pos l.argc) (running l v))) (le-ltb v.free (price l.image) fits)

  row-done : (l : Loaded) → Asks v.programs v.image c.a0 c.a1 l → price l.image ≤ v.free → exec c v ≡ done c (pos l.argc) (running l v)
  row-done l is fits = exec-is c v ∙ ap (exec_asked c v) (asks-given is) ∙ cheap l fits

  row-refused : ((l : Loaded) → Asks v.programs v.image c.a0 c.a1 l → v.free < price l.image) → exec c v ≡ refused c v
  row-refused dear = exec-is c v ∙ by (asked v.programs v.image c.a0 c.a1) refl
    where
      by : (o : Option Loaded) → asked v.programs v.image c.a0 c.a1 ≡ o → exec_asked c v o ≡ refused c v
      by None is = refl
      by (Some l) is = ap (λ b. unless b c v (λ _. done c (pos l.argc) (running l v))) (lt-ltb v.free (price l.image) (dear l (asks-of v.programs v.image c.a0 c.a1 l is)))

-- ---- what `done` says of the kernel in which the program was replaced, or wasn't

pub record IsDone (k1 : Kernel) (h1 : Hart) (k2 : Kernel) (h2 : Hart) (value : ℤ) : Type 0 where
  pub sound : IsSound k2 h2
  pub kernel : k2 ≡ record k1 { table = changed_at (slot_now k1) (process.in_call None) k1.table }
  pub state : state_of k2 h2 ≡ own_state (pid_now k1) (with_answer value (live_now k1 h1)) (state_of k1 h1)

module _ (k : Kernel) (h h1 : Hart) (m : Memories) (c : Call) (whole : IsWhole k h) (runs : IsRunning k) where
  module _ (start : Entry) (h' : Hart) (to : Replaced k.memories m (map named_file k.programs.items) (slot_now k) c.a0 c.a1 start h1)
      (regs1 : h1.regs ≡ h.regs) (e : h' ≡ record h1 { regs = begun h1.regs start }) where
    abbrev now : Registers
    now = (started to.0 (live_now k h)).regs

    pub exec-prepared : Prepared k h (over k m) h' to.0.image now (state_of (over k m) h').free
    exec-prepared =
        let regs : h'.regs ≡ now = ap (λ (x : Hart). x.regs) e ∙ ap (λ (r : Registers). begun r start) regs1 ∙ ap (begun h.regs) to.2 in
        prepared-anew whole.sound runs to.5 (runs-same (begun h1.regs start) e to.6) regs

    few-texts : to.0.argc ≤ ARG_BYTES
    few-texts = asked-few to.1

    -- the number of texts, as an answer
    pub exec-count : (count : ℤ) → count ≡ cast_signed w64 start.argc → cast_signed w64 (cast_unsigned w64 count) ≡ pos to.0.argc
    exec-count count is =
        let small : cast_signed w64 to.0.argc ≡ pos to.0.argc = to_z_pos w64 to.0.argc (omega (arith, few-texts)) in
        ap (λ (z : ℤ). cast_signed w64 (cast_unsigned w64 z)) (is ∙ ap (λ (x : Entry). cast_signed w64 x.argc) to.2 ∙ small) ∙ small

    exec-row : exec c (view_now k h) ≡ done c (pos to.0.argc) (running to.0 (view_now k h))
    unfolding state_of view_of
    exec-row = row-done c (view_now k h) to.0 to.1 to.4

    -- what the frees come to
    exec-free : (state_of (over k m) h').free ≡ (view_now k h).free + price (view_now k h).image - price to.0.image
    unfolding view_of
    exec-free = omega (arith, exec-prepared.paid)

    pub exec-made : (k2 : Kernel) (h2 : Hart) (value : ℤ) → value ≡ pos to.0.argc → IsDone (over k m) h' k2 h2 value → Makes k h (exec c (view_now k h)) k2 h2
    unfolding view_of
    exec-made k2 h2 value told d =
        prepared-makes c value (exec c (view_now k h)) whole runs exec-prepared d.sound d.kernel d.state
        (exec-row ∙ sym (λ t. done c (told t) (record (view_now k h) { regs = now; image = to.0.image; free = exec-free t })))

    pub exec-answer : (end : CallEnd) (value : ℤ) → value ≡ pos to.0.argc → end ≡ Done value → (exec c (view_now k h)).answer ≡ answer_of c.number end
    exec-answer end value is told =
        ap (λ (o : Own). o.answer) exec-row ∙ sym (ap (answer_of c.number) told ∙ ap (Called c.number) is)

  module _ (not : Unreplaced k.memories m (map named_file k.programs.items) (slot_now k) c.a0 c.a1 h h1) where
    pub refused-prepared : Prepared k h (over k m) h1 (live_now k h).image h.regs (state_of k h).free
    refused-prepared = subst (λ x. Prepared k h (over k m) x (live_now k h).image h.regs (state_of k h).free) (sym not.2) (prepared-same whole.sound runs not.1)

    refused-row : exec c (view_now k h) ≡ refused c (view_now k h)
    unfolding state_of view_of
    refused-row = row-refused c (view_now k h) not.0

    pub refused-made : (k2 : Kernel) (h2 : Hart) (value : ℤ) → value ≡ minus_one → IsDone (over k m) h1 k2 h2 value → Makes k h (exec c (view_now k h)) k2 h2
    unfolding view_of
    refused-made k2 h2 value is d =
        prepared-makes c value (exec c (view_now k h)) whole runs refused-prepared d.sound d.kernel d.state (refused-row ∙ sym (ap (λ z. done c z (view_now k h)) is))

    pub refused-answer : (end : CallEnd) (value : ℤ) → value ≡ minus_one → end ≡ Done value → (exec c (view_now k h)).answer ≡ answer_of c.number end
    refused-answer end value is told = ap (λ (o : Own). o.answer) refused-row ∙ sym (ap (answer_of c.number) told ∙ ap (Called c.number) is)
