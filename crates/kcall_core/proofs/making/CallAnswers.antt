-- What a call of the process that runs comes to: at its first step, and where it goes on.
use Rattle.kcall_core.proofs.Prelude.{ℤ, ◌∙◌, ◌≡◌, A0, A1, A2, A7, after, answer_of, ap, begun_live, begun_state, c_int, Call, call_begun, call_in, call_or_begun, CallEnd, done, Ecall, false, Hart}
use Rattle.kcall_core.proofs.Prelude.{IsRunning, IsSound, IsWhole, Kernel, length, live_now, Makes, next_instruction, None, Option, Own, own, own_state, perform, pid_now, refl, reg, Some, state_of}
use Rattle.kcall_core.proofs.Prelude.{subst, sym, view_now, view_of, with_answer, with_pc}
use Rattle.kcall_core.proofs.table.InCall.{calling, moved, is-in-call}
use Rattle.kcall_core.proofs.turns.Turned.{live-is}
use Rattle.kcall_core.proofs.making.Buffers.{unmoved-keeps}
use Rattle.kcall_core.proofs.making.AloneMakes.{OnlyItself, only-pid, only-whole, answer-makes, mid-makes}
use Rattle.kernel_spec.specs.steps.Cases as laws
use Rattle.kernel_spec.proofs.steps.AloneLawsHold as law

-- ---- a call that is done at once

-- what `done` leaves of a kernel
pub record IsDone (k : Kernel) (h : Hart) (value : ℤ) (k' : Kernel) (h' : Hart) : Type 0 where
  pub sound : IsSound k' h'
  pub kernel : k' ≡ calling None k
  pub state : state_of k' h' ≡ own_state (pid_now k) (with_answer value (live_now k h)) (state_of k h)

pub done-at-once : {k : Kernel} {h : Hart} {k' : Kernel} {h' : Hart} {value : ℤ} (c : Call) (told : ℤ) → value ≡ told → IsWhole k h → IsRunning k
    → IsDone k h value k' h' → Makes k h (done c told (view_now k h)) k' h'
done-at-once {k} {h} {k'} {h'} {value} c told is whole runs x =
    answer-makes k h k' h' c value (done c told (view_now k h)) whole runs (record {
      sound = x.sound;
      table = ap (λ (y : Kernel). y.table) x.kernel;
      current = ap (λ (y : Kernel). y.current) x.kernel;
      files = ap (λ (y : Kernel). y.files) x.kernel;
      frames = ap (λ (y : Kernel). length y.memories.ram) x.kernel;
      state = x.state;
      paid = refl;
    }) (ap (λ z. done c z (view_now k h)) (sym is))

-- ---- a call that begins

-- what `begin` leaves of a kernel
pub record HasBegun (k : Kernel) (h : Hart) (c : Call) (k' : Kernel) (h' : Hart) : Type 0 where
  pub sound : IsSound k' h'
  pub kernel : k' ≡ calling (Some c) k
  pub call : c ≡ call_begun (view_now k h)
  pub live : live_now k' h' ≡ begun_live (state_of k h) (pid_now k) (live_now k h)
  pub state : state_of k' h' ≡ begun_state (pid_now k) (live_now k h) (state_of k h)

-- the call that the registers ask for
abbrev asked : Kernel → Hart → Call
asked k h = record { number = c_int (reg h.regs A7); a0 = reg h.regs A0; a1 = reg h.regs A1; a2 = reg h.regs A2; moved = 0; clock = k.clock }

pub asked-begun : (k : Kernel) (h : Hart) (c : Call) → c ≡ asked k h → c ≡ call_begun (view_now k h)
unfolding view_of state_of
asked-begun k h c is = is

pub has-begun : (k : Kernel) (h : Hart) (c : Call) (k' : Kernel) (h' : Hart) → IsSound k h → IsRunning k → k' ≡ calling (Some c) k
    → h' ≡ moved (with_pc h.regs (after h.regs)) h → c ≡ call_begun (view_now k h) → HasBegun k h c k' h'
has-begun k h c k' h' sound runs kernel hart call =
    let l = live_now k h in
    let regs = with_pc h.regs (after h.regs) in
    let x = is-in-call k h (Some c) regs k' h' sound runs kernel hart in
    record {
      sound = x.sound;
      kernel = kernel;
      call = call;
      live = x.live ∙ ap (λ (d : Call). record l { regs = regs; call = Some d }) call;
      state = x.state ∙ ap (λ (d : Call). own_state (pid_now k) (record l { regs = regs; call = Some d }) (state_of k h)) call;
    }

module _ {k : Kernel} {h : Hart} {c : Call} {k' : Kernel} {h' : Hart} (whole : IsWhole k h) (runs : IsRunning k) (x : HasBegun k h c k' h') where
  begun-itself : OnlyItself k h k' h'
  unfolding view_of
  begun-itself = record {
    regs = with_pc (live_now k h).regs (after (live_now k h).regs);
    image = (live_now k h).image;
    call = Some c;
    free = (state_of k h).free;
    sound = x.sound;
    table = ap (λ (y : Kernel). y.table) x.kernel;
    current = ap (λ (y : Kernel). y.current) x.kernel;
    files = ap (λ (y : Kernel). y.files) x.kernel;
    frames = ap (λ (y : Kernel). length y.memories.ram) x.kernel;
    state = x.state ∙ ap (λ (d : Call). own_state (pid_now k) (record (live_now k h) { regs = with_pc (live_now k h).regs (after (live_now k h).regs); call = Some d }) (state_of k h)) (sym x.call);
    paid = refl;
    buffer = unmoved-keeps c (live_now k h).image (ap (λ (d : Call). d.moved) x.call);
  }

  pub begun-whole : IsWhole k' h'
  begun-whole = only-whole whole runs begun-itself

  view-begun : view_now k' h' ≡ view_of (begun_state (pid_now k) (live_now k h) (state_of k h)) (pid_now k) (begun_live (state_of k h) (pid_now k) (live_now k h))
  view-begun = let pid = only-pid whole runs begun-itself in λ i. view_of (x.state i) (pid i) (x.live i)

  -- what the row of the call comes to is what the step comes to
  pub begun-row : laws.IsBetweenCalls (live_now k h) → next_instruction (live_now k h).regs (live_now k h).image ≡ Ecall → perform c (view_now k' h') ≡ own (view_now k h)
  begun-row unmarked is =
      ap (λ (d : Call). perform d (view_now k' h')) x.call
      ∙ ap (perform (call_begun (view_now k h))) view-begun
      ∙ sym (law.ecall (state_of k h) (pid_now k) (live_now k h) (live-is k h whole.sound runs) unmarked is).0

  pub begun-made : {k'' : Kernel} {h'' : Hart} → laws.IsBetweenCalls (live_now k h)
      → next_instruction (live_now k h).regs (live_now k h).image ≡ Ecall → Makes k' h' (perform c (view_now k' h')) k'' h''
      → Makes k h (own (view_now k h)) k'' h''
  begun-made {k''} {h''} unmarked is made =
      mid-makes k h k' h' k'' h'' (own (view_now k h)) whole runs begun-itself (subst (λ o. Makes k' h' o k'' h'') (begun-row unmarked is) made)

  -- and it answers so
  pub begun-answer : (end : CallEnd) → laws.IsBetweenCalls (live_now k h) → next_instruction (live_now k h).regs (live_now k h).image ≡ Ecall
      → (perform c (view_now k' h')).answer ≡ answer_of c.number end
      → (own (view_now k h)).answer ≡ answer_of (call_in (view_now k h)).number end
  unfolding view_of
  begun-answer end unmarked is told =
      ap (λ (o : Own). o.answer) (sym (begun-row unmarked is)) ∙ told
      ∙ ap (λ (d : Call). answer_of d.number end) x.call
      ∙ ap (λ (o : Option Call). answer_of (call_or_begun (view_now k h) o).number end) (sym unmarked.1)

-- ---- a call that goes on

module _ (k : Kernel) (h : Hart) {c : Call} (unmarked : (live_now k h).killed ≡ false) (busy : (live_now k h).call ≡ Some c) where
  resumed-row : own (view_now k h) ≡ perform c (view_now k h)
  resumed-row = law.resume (state_of k h) (pid_now k) (live_now k h) c unmarked busy

  pub resumed-made : {k' : Kernel} {h' : Hart} → Makes k h (perform c (view_now k h)) k' h' → Makes k h (own (view_now k h)) k' h'
  resumed-made {k'} {h'} = subst (λ o. Makes k h o k' h') (sym resumed-row)

  pub resumed-answer : (end : CallEnd) → (perform c (view_now k h)).answer ≡ answer_of c.number end → (own (view_now k h)).answer ≡ answer_of (call_in (view_now k h)).number end
  unfolding view_of
  resumed-answer end told = ap (λ (o : Own). o.answer) resumed-row ∙ told ∙ ap (λ (o : Option Call). answer_of (call_or_begun (view_now k h) o).number end) (sym busy)
