-- Who has a slot and who sleeps once the process that ran is gone.
use Rattle.kcall_core.proofs.Prelude.{ℕ, ℤ, ◌∙◌, ◌≡◌, ◌≢◌, Answer, ap, Blocked, Bool, Called, cases_eq, Channel, channel_of, cond, contains, Exited, Faulted, FinMap, get, gone, gone_with, halts_with}
use Rattle.kcall_core.proofs.Prelude.{Hart, inl, inr, IsBlocked, IsRunning, IsWhole, Kernel, Live_state, nat_cmp, None, none-some, NPROC, OpenFile, Option, option_map, or_nobody, pid_at, pid_now}
use Rattle.kcall_core.proofs.Prelude.{place_at, Process, process_pid, refl, sleepers_below, slot_now, slots_of, Some, state_channel, state_status, status_of, stays_current, Stepped, sym, true}
use Rattle.kcall_core.proofs.Prelude.{turns_of, TurnsAfter, unless_woken, view_now, view_of, Zombie_state}
use Rattle.kcall_core.proofs.table.States.{Running, running}
use Rattle.kcall_core.proofs.turns.Turned.{slots-same}
use Rattle.kcall_core.proofs.turns.StepSlots.{no-slot}
use Rattle.kcall_core.proofs.making.Sleepers.{elsewhere, on-it-still}
use Rattle.kcall_core.proofs.processes.Departs.{seat, seat_woken, Departs}
use Rattle.proc_table.specs.declared.process.State as table

-- ---- a process of the table

-- a zombie doesn't sleep
zombie-awake : (x : Process) (status : ℤ) → status_of x ≡ Some status → channel_of x ≡ None
zombie-awake x status e = by x.state e
  where
    by : (s : table.State) → state_status s ≡ Some status → state_channel s ≡ None
    by (Live_state life) f = absurd (none-some status f)
    by (Zombie_state other) f = refl

-- the pid in a place is in what the turns see of it
pid-seen : (o : Option Process) → option_map process_pid o ≡ option_map (λ (e : ℕ × Option Channel). e.0) (option_map seat o)
pid-seen None = refl
pid-seen (Some p) = refl

pid-woken : (wakes : Channel → Bool) (o : Option Process) → option_map (λ (e : ℕ × Option Channel). e.0) (option_map (seat_woken wakes) o) ≡ option_map process_pid o
pid-woken wakes None = refl
pid-woken wakes (Some p) = refl

module _ (k k' : Kernel) (h h' : Hart) (status : ℤ) (left : FinMap nat_cmp OpenFile) (wakes : Channel → Bool) (whole : IsWhole k h) (runs : IsRunning k) (d : Departs k h k' h' status left wakes) where
  now : Running k h
  now = running k h whole.sound runs

  own-pid : now.is.process.pid ≡ pid_now k
  own-pid = ap (λ (o : Option Process). (or_nobody o).pid) (sym now.is.is)

  -- ---- places

  -- what has become of a process in another slot
  abbrev Became : Process → Process → Type 0
  Became x y = (y.pid ≡ x.pid) × (channel_of y ≡ unless_woken wakes (channel_of x))

  same-seat : (x y : Process) → Some (seat y) ≡ Some (seat_woken wakes x) → Became x y
  same-seat x y e = let same : seat y ≡ seat_woken wakes x = cc in (ap (λ (z : ℕ × Option Channel). z.0) same, ap (λ (z : ℕ × Option Channel). z.1) same)

  place-after : (j : ℕ) → j ≢ slot_now k → (x : Process) → place_at k.table j ≡ Some x → (y : Process) × (place_at k'.table j ≡ Some y) × Became x y
  place-after j other x is = by (place_at k'.table j) refl (d.others j other ∙ ap (option_map (seat_woken wakes)) is)
    where
      by : (o : Option Process) → place_at k'.table j ≡ o → option_map seat o ≡ Some (seat_woken wakes x) → (y : Process) × (place_at k'.table j ≡ Some y) × Became x y
      by None at e = absurd (none-some (seat_woken wakes x) e)
      by (Some y) at e = (y, at, same-seat x y e)

  place-before : (j : ℕ) → j ≢ slot_now k → (y : Process) → place_at k'.table j ≡ Some y → (x : Process) × (place_at k.table j ≡ Some x) × Became x y
  place-before j other y is = by (place_at k.table j) refl (sym (ap (option_map seat) is) ∙ d.others j other)
    where
      by : (o : Option Process) → place_at k.table j ≡ o → Some (seat y) ≡ option_map (seat_woken wakes) o → (x : Process) × (place_at k.table j ≡ Some x) × Became x y
      by None at e = absurd (none-some (seat y) (sym e))
      by (Some x) at e = (x, at, same-seat x y e)

  same-slots : slots_of k'.table ≡ slots_of k.table
  same-slots = slots-same k.table k'.table (λ j. elim (cases_eq j (slot_now k)) [
    | inl e ↦
        let (q, at, pid, over) = d.own in
        ap (pid_at k'.table) e ∙ ap (option_map process_pid) at ∙ ap Some (pid ∙ sym own-pid) ∙ sym (ap (pid_at k.table) e ∙ ap (option_map process_pid) now.is.is)
    | inr other ↦ pid-seen (place_at k'.table j) ∙ ap (option_map (λ (e : ℕ × Option Channel). e.0)) (d.others j other) ∙ pid-woken wakes (place_at k.table j)
  ])

  -- ---- sleepers

  -- who slept in a slot sleeps on there, but where it wakes
  pub stays : (j : ℕ) (x : Process) (c : Channel) → place_at k.table j ≡ Some x → channel_of x ≡ Some c
      → (y : Process) × (place_at k'.table j ≡ Some y) × (y.pid ≡ x.pid) × (channel_of y ≡ cond (wakes c) None (Some c))
  stays j x c at on =
      let (y, is, (pid, became)) = place-after j (elsewhere whole runs j x c at on) x at in
      (y, is, pid, became ∙ ap (unless_woken wakes) on)

  -- who sleeps in a slot after the step slept there before, on the same channel
  pub slept : (j : ℕ) (y : Process) (c : Channel) → place_at k'.table j ≡ Some y → channel_of y ≡ Some c → (x : Process) × (place_at k.table j ≡ Some x) × (y.pid ≡ x.pid) × (channel_of x ≡ Some c)
  slept j y c at on = elim (cases_eq j (slot_now k)) [
    | inl e ↦
        let (z, here, pid, over) = d.own in
        let one : Some y ≡ Some z = sym at ∙ ap (place_at k'.table) e ∙ here in
        let same : y ≡ z = cc in
        absurd (none-some c (sym (ap channel_of same ∙ zombie-awake z status over) ∙ on))
    | inr other ↦
        let (x, was, (pid, became)) = place-before j other y at in
        (x, was, pid, on-it-still wakes (channel_of x) c (sym became ∙ on))
  ]

  -- ---- the turn part

  stays-no-more : (answer : Answer) → gone_with answer ≡ Some status → stays_current (pid_now k) answer ≡ None
  stays-no-more Stepped e = absurd (none-some status e)
  stays-no-more (Called number value) e = absurd (none-some status e)
  stays-no-more (Blocked number) e = absurd (none-some status e)
  stays-no-more (Exited other) e = refl
  stays-no-more (Faulted cause) e = refl

  not-blocked : (answer : Answer) → gone_with answer ≡ Some status → IsBlocked answer → ⊥
  not-blocked answer e (number, is) = none-some status (sym (ap gone_with is) ∙ e)

  pub gone-turns : (answer : Answer) → gone_with answer ≡ Some status
      → ((q : ℕ) → contains (sleepers_below k'.table NPROC) q ≡ true → contains (sleepers_below k.table NPROC) q ≡ true)
      → TurnsAfter (turns_of k None) (pid_now k) (gone answer (view_now k h)) (turns_of k' (halts_with (pid_now k) answer))
  unfolding turns_of view_of
  gone-turns answer ends slept-on = record {
    last = d.last;
    current = ap (option_map (λ _. pid_now k')) d.stopped ∙ sym (stays-no-more answer ends);
    halted = refl;
    held = λ q listed some. ap (λ m. get m q) same-slots;
    given_up = λ q unlisted. ap (λ m. get m q) same-slots ∙ no-slot k h whole.sound.table q unlisted;
    newborn = tt;
    blocked = λ e. absurd (not-blocked answer ends e);
    awake = λ q e. inl (slept-on q e);
  }
