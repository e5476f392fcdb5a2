-- A turn: whoever runs next may run and is the nearest, and the kernel is whole again.
use Rattle.kcall_core.proofs.Prelude.{ℕ, ℤ, ◌<◌, ◌∙◌, ◌≡◌, ◌≤◌, ap, Channel, channel_of, contains, distance, false, FinSet, get, Hart, Holds, is_for, is_none, is_runnable, is_some, IsNearest}
use Rattle.kcall_core.proofs.Prelude.{IsRunnable, IsSome, IsSound, IsTable, IsWhole, KeepBuffers, Kernel, length, live, Live_state as Live, nat_cmp, None, none-some, none_from_is_none, NPROC, Option}
use Rattle.kcall_core.proofs.Prelude.{option_map, pid_at, place_at, place_is_runnable, Process, process_pid, refl, same_Some, sleepers_below, Sleeps, slot_of, Slots, slots_of, Some, state_channel}
use Rattle.kcall_core.proofs.Prelude.{state_of, state_runnable, state_status, status_of, subst, sym, true, true≢false, Turn, turns_of, TurnTaken, view, view_of, waits_for, WellFormed, world_of}
use Rattle.kcall_core.proofs.Prelude.{Zombie_state as Zombie}
use Rattle.proc_table.specs.declared.process.State.{State}
use Rattle.kcall_core.proofs.turns.Chosen.{pid-told, live-state}
use Rattle.kcall_core.proofs.table.Observed.{slot-found, live-held, ended-held, missing-live}
use Rattle.kcall_core.proofs.turns.Turned.{slot-is, slot-from, sleeps-is, awake-is, sleepers-same}
use Rattle.kernel_spec.specs.views.Processes as meaning
use Rattle.kernel_spec.specs.views.State as states

-- ---- who may run

awake-state : (s : State) → state_runnable s ≡ true → state_channel s ≡ None
awake-state (Live life) e = none_from_is_none life.channel e
awake-state (Zombie status) e = absurd (true≢false (sym e))

runnable-state : (s : State) → state_status s ≡ None → state_channel s ≡ None → state_runnable s ≡ true
runnable-state (Live life) lives awake = ap is_none awake
runnable-state (Zombie status) lives awake = absurd (none-some status (sym lives))

no-view : (s : states.State) (p : ℕ) → live s p ≡ None → IsSome (view s p) → ⊥
no-view s p none some = true≢false (sym some ∙ ap (λ o. is_some (option_map (view_of s p) o)) none)

-- the process in this slot may run
pub record Runs (t : Slots) (slot : ℕ) (p : Process) : Type 0 where
  pub is : place_at t slot ≡ Some p
  pub may : is_runnable p ≡ true

module _ (k : Kernel) (h : Hart) (table : IsTable k.table) where
  pub runnable-is : (slot : ℕ) (p : Process) → Runs k.table slot p → IsRunnable (world_of k h None) p.pid
  unfolding turns_of
  runnable-is slot p r = (
    ap (λ o. is_some (option_map (view_of (state_of k h) p.pid) o)) (live-held k h table slot p r.is (live-state p.state r.may)),
    λ asleep. true≢false (sym asleep ∙ awake-is k.table table slot p r.is (awake-state p.state r.may)),
  )

  runs-status : (pid slot : ℕ) (p : Process) → place_at k.table slot ≡ Some p → p.pid ≡ pid → IsRunnable (world_of k h None) pid → status_of p ≡ None
  runs-status pid slot p is named can = by (status_of p) refl
    where
      by : (o : Option ℤ) → status_of p ≡ o → o ≡ None
      by None e = refl
      by (Some status) e = absurd (no-view (state_of k h) pid (ap (live (state_of k h)) (sym named) ∙ ended-held k h table slot p status is e) can.0)

  runs-awake : (pid slot : ℕ) (p : Process) → place_at k.table slot ≡ Some p → p.pid ≡ pid → IsRunnable (world_of k h None) pid → channel_of p ≡ None
  unfolding turns_of
  runs-awake pid slot p is named can = by (channel_of p) refl
    where
      by : (o : Option Channel) → channel_of p ≡ o → o ≡ None
      by None e = refl
      by (Some c) e = absurd (can.1 (subst (λ (n : ℕ). Sleeps (turns_of k None) n) named (sleeps-is k.table table slot p c is e)))

  pub runnable-from : (pid slot : ℕ) (p : Process) → place_at k.table slot ≡ Some p → p.pid ≡ pid → IsRunnable (world_of k h None) pid → Runs k.table slot p
  runnable-from pid slot p is named can = record { is = is; may = runnable-state p.state (runs-status pid slot p is named can) (runs-awake pid slot p is named can) }

  -- who may run has a slot
  slot-seen : (pid : ℕ) → IsRunnable (world_of k h None) pid → (slot : ℕ) × (p : Process) × (place_at k.table slot ≡ Some p) × (p.pid ≡ pid)
  slot-seen pid can = by (slot_of k.table pid) refl
    where
      by : (o : Option ℕ) → slot_of k.table pid ≡ o → (slot : ℕ) × (p : Process) × (place_at k.table slot ≡ Some p) × (p.pid ≡ pid)
      by None is = absurd (no-view (state_of k h) pid (missing-live k h table pid is) can.0)
      by (Some slot) is = let f = slot-found k.table pid slot is in (slot, f.0, f.1, f.2)

  -- where no slot has one that may run, nobody may
  pub nobody : ((slot : ℕ) → slot < NPROC → place_is_runnable (place_at k.table slot) ≡ false) → (p : ℕ) → ¬ IsRunnable (world_of k h None) p
  nobody none pid can =
      let s = slot-seen pid can in
      let r = runnable-from pid s.0 s.1 s.2 s.3 can in
      let inside = slot-from k.table table s.0 s.1.pid (slot-is k.table table s.0 s.1 s.2) in
      true≢false (sym r.may ∙ sym (ap place_is_runnable s.2) ∙ none s.0 inside.3)

  -- the nearest slot is that of the nearest process
  pub nearest-is : (slot : ℕ) (p : Process) → Runs k.table slot p
      → ((j : ℕ) → j < NPROC → place_is_runnable (place_at k.table j) ≡ true → distance k.table.last slot ≤ distance k.table.last j)
      → IsNearest (world_of k h None) p.pid
  unfolding turns_of
  nearest-is slot p r near q i j can mine its =
      let other = slot-from k.table table j q its in
      let runs = runnable-from q j other.0 other.1 other.2 can in
      let here : slot ≡ i = same_Some slot i (sym (slot-is k.table table slot p r.is) ∙ mine) in
      subst (λ (n : ℕ). distance k.table.last n ≤ distance k.table.last j) here (near j other.3 (ap place_is_runnable runs.is ∙ runs.may))

-- ---- the kernel afterwards

-- the slot that is chosen has a process that may run
pub runs-in : (t : Slots) (slot : ℕ) → place_is_runnable (place_at t slot) ≡ true → (p : Process) × Runs t slot p
runs-in t slot may = by (place_at t slot) refl may
  where
    by : (o : Option Process) → place_at t slot ≡ o → place_is_runnable o ≡ true → (p : Process) × Runs t slot p
    by None at e = absurd (true≢false (sym e))
    by (Some p) at e = (p, record { is = at; may = e })

-- the process in a slot runs, and its slot had the last turn
abbrev pub with_turn : Kernel → ℕ → Kernel
with_turn k slot = record k { table = record k.table { last = slot }; current = Some slot }

-- nobody falls asleep, and nobody wakes
same-sleepers : (t : Slots) (slot : ℕ) → sleepers_below (record t { last = slot }) NPROC ≡ sleepers_below t NPROC
same-sleepers t slot = sleepers-same t (record t { last = slot }) NPROC (λ j. refl)

pub turned : (k : Kernel) (slot pid : ℕ) → pid_at k.table slot ≡ Some pid → turns_of (with_turn k slot) None ≡ record (turns_of k None) { current = Some pid; last = slot }
unfolding turns_of slots_of
turned k slot pid told = λ t. record {
  slots = slots_of k.table;
  sleepers = same-sleepers k.table slot t;
  last = slot;
  current = Some (pid-told (with_turn k slot) slot pid refl told t);
  halted = None;
}

-- who sleeps does so on its channel, as the state stands
abbrev SleepSo : Slots → states.State → Type 0
SleepSo t s = (slot : ℕ) (p : Process) (l : meaning.Live) (channel : Channel) → Holds t slot p → live s p.pid ≡ Some l → channel_of p ≡ Some channel → is_for (waits_for s p.pid l) channel ≡ true

whole-then : (k : Kernel) (h h' : Hart) (slot : ℕ) (p : Process) → IsWhole k h → Runs k.table slot p → IsSound (with_turn k slot) h' → state_of (with_turn k slot) h' ≡ state_of k h
    → IsWhole (with_turn k slot) h'
unfolding turns_of
whole-then k h h' slot p whole r sound same = record {
  sound = sound;
  well = subst (WellFormed (length k.memories.ram)) (sym same) whole.well;
  files = whole.files;
  counted = record { counts = whole.counted.counts; lists = whole.counted.lists; closed = whole.counted.closed };
  channels = subst (SleepSo k.table) (sym same) whole.channels;
  awake = λ i q at held.
      let e : p ≡ q = same_Some p q (sym r.is ∙ ap (place_at k.table) (same_Some slot i at) ∙ held) in
      sym (ap channel_of e) ∙ awake-state p.state r.may;
  unready = λ q v asleep see. whole.unready q v (subst (λ (s : FinSet nat_cmp). contains s q ≡ true) (same-sleepers k.table slot) asleep) (sym (ap (λ (s : states.State). view s q) same) ∙ see);
  buffers = subst KeepBuffers (sym same) whole.buffers;
}

module _ (k k' : Kernel) (h h' : Hart) (slot : ℕ) (p : Process) (whole : IsWhole k h) (r : Runs k.table slot p) (is : k' ≡ with_turn k slot) (same : state_of k' h' ≡ state_of k h) where
  pub turned-whole : IsSound k' h' → IsWhole k' h'
  turned-whole sound = subst (λ (x : Kernel). IsSound x h' → state_of x h' ≡ state_of k h → IsWhole x h') (sym is) (whole-then k h h' slot p whole r) sound same

  pub turned-world : (pid : ℕ) → pid_at k.table slot ≡ Some pid → TurnTaken (world_of k h None) (Turn pid) (world_of k' h' None)
  unfolding turns_of
  turned-world pid told =
      let named : p.pid ≡ pid = same_Some p.pid pid (sym (ap (option_map process_pid) r.is) ∙ told) in
      let can = runnable-is k h whole.sound.table slot p r in
      let turns : turns_of k' None ≡ record (turns_of k None) { current = Some pid; last = slot } = ap (λ (x : Kernel). turns_of x None) is ∙ turned k slot pid told in (
        slot,
        sym (ap (get (slots_of k.table)) named) ∙ slot-is k.table whole.sound.table slot p r.is,
        subst (λ (n : ℕ). IsSome (view (state_of k h) n)) named can.0,
        λ t. record { state = same t; turns = turns t },
      )

  pub turned-nearest : (pid : ℕ) → pid_at k.table slot ≡ Some pid
      → ((j : ℕ) → j < NPROC → place_is_runnable (place_at k.table j) ≡ true → distance k.table.last slot ≤ distance k.table.last j)
      → IsRunnable (world_of k h None) pid × IsNearest (world_of k h None) pid
  turned-nearest pid told near =
      let named : p.pid ≡ pid = same_Some p.pid pid (sym (ap (option_map process_pid) r.is) ∙ told) in
      subst (λ (n : ℕ). IsRunnable (world_of k h None) n × IsNearest (world_of k h None) n) named (runnable-is k h whole.sound.table slot p r, nearest-is k h whole.sound.table slot p r near)
