-- The row sleep, as the code goes through it.
use Rattle.kcall_core.proofs.Prelude.{ℕ, ℤ, ◌∙◌, ◌≡◌, ap, asleep, Bool, c_int, Call, changed_at, cond, done, false, frame_count, Hart, is_for, IsRunning, IsSound, IsWhole, Kernel, Live, live_now}
use Rattle.kcall_core.proofs.Prelude.{Makes, negsuc, None, not, own_state, pid_now, pos, ready, refl, row_of, row_ready, row_waits_for, sleep, sleep_same, sleep_waits_for, slot_now, Some, State}
use Rattle.kcall_core.proofs.Prelude.{state_of, sym, true, view_now, view_of, waits, waits_for}
use Rattle.kernel_spec.specs.steps.Ticks.{has_passed, ticks_since}
use Rattle.kernel_spec.specs.steps.Updates.{in_call}
use Rattle.kcall_core.proofs.making.Buffers.{unmoved-keeps}
use Rattle.kcall_core.proofs.making.AloneMakes.{wait-makes}
use Rattle.proc_table.specs.declared.channel.Channel.TheVariants as on
use Rattle.proc_table.specs.Processes as process

-- how many ticks have passed since the call began
abbrev pub passed : ℕ → Call → ℕ
passed clock c = ticks_since clock c.clock

module _ (k : Kernel) (h : Hart) (c : Call) (since : ℕ) (z : ℤ) (b : Bool) (since-is : since ≡ passed k.clock c) (asked : z ≡ c_int c.a0) where
  pub same-test : has_passed since z ≡ b → has_passed (passed k.clock c) (c_int c.a0) ≡ b
  same-test e = (λ i. has_passed (sym since-is i) (sym asked i)) ∙ e

  -- what the row comes to
  pub slept-row : has_passed since z ≡ b → sleep c (view_now k h) ≡ cond b (done c (pos 0) (view_now k h)) (waits c 0 (view_now k h))
  unfolding view_of state_of
  slept-row e = sleep_same c (view_now k h) ∙ ap (λ (x : Bool). cond (not x) (waits c 0 (view_now k h)) (done c (pos 0) (view_now k h))) (same-test e) ∙ either-way b
    where
      either-way : (b : Bool) → cond (not b) (waits c 0 (view_now k h)) (done c (pos 0) (view_now k h)) ≡ cond b (done c (pos 0) (view_now k h)) (waits c 0 (view_now k h))
      either-way true = refl
      either-way false = refl

-- ---- it waits

-- for ticks
for-ticks : (c d : Call) (passed : ℕ) (z : ℤ) → has_passed passed z ≡ false → is_for (sleep_waits_for d z) on.Clock ≡ true
for-ticks c d passed (pos n) e = refl
for-ticks c d passed (negsuc k) e = let no : ⊥ = cc in absurd no

module _ (t : State) (p : ℕ) (m : Live) (c : Call) (call : m.call ≡ Some c) (number : c.number ≡ pos 13) (early : has_passed (passed t.clock c) (c_int c.a0) ≡ false) where
  pub waits-ticks : is_for (waits_for t p m) on.Clock ≡ true
  unfolding row_of
  waits-ticks =
      ap (λ o. is_for (waits_for t p (record m { call = o })) on.Clock) call ∙ ap (λ z. is_for (row_waits_for t p m c (row_of z)) on.Clock) number
      ∙ for-ticks c c (passed t.clock c) (c_int c.a0) early

  pub sleeps-unready : m.killed ≡ false → ready (view_of t p m) ≡ false
  unfolding view_of ready row_of
  sleeps-unready alive =
      (λ i. ready (view_of t p (record m { killed = alive i; call = call i })))
      ∙ ap (λ z. row_ready (view_of t p (record m { killed = false; call = Some c })) c (row_of z)) number
      ∙ early

-- what `block` leaves
pub record IsBlocked (k : Kernel) (h : Hart) (c : Call) (k' : Kernel) (h' : Hart) : Type 0 where
  pub sound : IsSound k' h'
  pub table : k'.table ≡ changed_at (slot_now k) (asleep on.Clock) (changed_at (slot_now k) (process.in_call (Some c)) k.table)
  pub stopped : k'.current ≡ None
  pub files : k'.files ≡ k.files
  pub frames : frame_count k' ≡ frame_count k
  pub state : state_of k' h' ≡ own_state (pid_now k) (in_call c (live_now k h)) (state_of k h)

pub sleep-makes : (k : Kernel) (h : Hart) (k' : Kernel) (h' : Hart) (c : Call) → IsWhole k h → IsRunning k → (live_now k h).killed ≡ false
    → c.number ≡ pos 13 → has_passed (passed k.clock c) (c_int c.a0) ≡ false → IsBlocked k h (record c { moved = 0 }) k' h'
    → Makes k h (waits c 0 (view_now k h)) k' h'
unfolding view_of state_of
sleep-makes k h k' h' c whole runs alive number early x =
    let d : Call = record c { moved = 0 } in
    let clock : (state_of k' h').clock ≡ k.clock = ap (λ (t : State). t.clock) x.state in
    let late : has_passed (passed (state_of k' h').clock d) (c_int d.a0) ≡ false = ap (λ n. has_passed (passed n d) (c_int d.a0)) clock ∙ early in
    let m : Live = record (live_now k h) { call = Some d } in
    wait-makes k h k' h' c 0 (live_now k h).image (state_of k h).free on.Clock (waits c 0 (view_now k h)) whole runs (record {
      sound = x.sound;
      table = x.table;
      current = x.stopped;
      files = x.files;
      frames = x.frames;
      state = x.state;
      paid = refl;
      buffer = unmoved-keeps d (live_now k h).image refl;
      waits = waits-ticks (state_of k' h') (pid_now k) m d refl number late;
      unready = sleeps-unready (state_of k' h') (pid_now k) m d refl number late alive;
    }) refl
