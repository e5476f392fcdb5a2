-- The process that runs is to sleep: it is in its call and on a channel, and nothing else that the state tells is another.
use Rattle.kcall_core.proofs.Prelude.{ℕ, ◌∙◌, ◌≡◌, ◌≢◌, ap, arith, asleep, by_pid, Call, cases_eq, changed_at, Channel, descriptors_at, each_of, entry_at, entry_of, get_or-set_other, get_or-set_same}
use Rattle.kcall_core.proofs.Prelude.{Hart, Held, held_at, in_call, inl, inr, IsCurrent, IsLiveAt, IsRunning, IsSound, IsTable, Kernel, List, live_now, Live_state, None, none-some, NPROC, Option}
use Rattle.kcall_core.proofs.Prelude.{option_map, or_zero, own_state, pid_now, place_at, Process, process_of, refl, Registers, regs_at, same_Some, set, slot_now, Slots, Some, state_of, status_of}
use Rattle.kcall_core.proofs.Prelude.{subst, sym, table_at, Zombie_state}
use Rattle.kcall_core.proofs.table.ByPid.{by_pid-same}
use Rattle.kcall_core.proofs.table.States.{Alone, Running, running, alone-entries, not-this, not-over}
use Rattle.kcall_core.proofs.table.Stops.{read-some, live-place}
use Rattle.kcall_core.proofs.turns.Chosen.{noted}
use Rattle.kcall_core.proofs.table.OnePlace.{asleep-lives}
use Rattle.kcall_core.proofs.table.InCall.{is-in-call, progress-set}
use Rattle.proc_table.specs.declared.process.State as table
use Rattle.kernel_spec.specs.steps.Updates as update

-- who sleeps is no part of the state
asleep-means : (on : Channel) (p : Process) (files : List (Option ℕ)) (held : Held) (regs : Registers) → process_of (asleep on p) files held regs ≡ process_of p files held regs
asleep-means on p files held regs = by p.state
  where
    by : (s : table.State) → process_of (asleep on (record p { state = s })) files held regs ≡ process_of (record p { state = s }) files held regs
    by (Live_state life) = refl
    by (Zombie_state status) = refl

-- the kernel in which the process that runs sleeps on a channel
abbrev pub drowsing : Channel → Kernel → Kernel
drowsing on k = noted k (changed_at (slot_now k) (asleep on) k.table)

module _ (k : Kernel) (h : Hart) (on : Channel) (sound : IsSound k h) (runs : IsRunning k) where
  now : Running k h
  now = running k h sound runs

  here : place_at (drowsing on k).table (slot_now k) ≡ Some (asleep on now.is.process)
  here = get_or-set_same k.table.places (slot_now k) (option_map (asleep on) (place_at k.table (slot_now k))) None
      (omega (arith, now.inside, sound.table.places)) ∙ ap (option_map (asleep on)) now.is.is

  there : (j : ℕ) → j ≢ slot_now k → place_at (drowsing on k).table j ≡ place_at k.table j
  there j ne = get_or-set_other k.table.places (slot_now k) j (option_map (asleep on) (place_at k.table (slot_now k))) None ne

  lives-here : status_of (asleep on now.is.process) ≡ None
  lives-here = asleep-lives on now.is.process now.is.live

  table-here : IsTable (drowsing on k).table
  table-here =
      let i = slot_now k in
      let p = now.is.process in
      subst IsTable (ap (λ o. record k.table { places = set k.table.places i (option_map (asleep on) o) }) (sym now.is.is))
      (table_at k.table i (Some p) p (asleep on p) sound.table now.inside (sym (read-some k.table.places i p now.is.is)) refl refl)

  pub drowsing-sound : IsSound (drowsing on k) h
  drowsing-sound = record {
    memories = sound.memories;
    table = table-here;
    lives = λ j p at live. elim (cases_eq j (slot_now k)) [
      | inl e ↦ sound.lives j now.is.process (ap (place_at k.table) e ∙ now.is.is) now.is.live
      | inr ne ↦ sound.lives j p (sym (there j ne) ∙ at) live
    ];
    ended = λ j p status at over. elim (cases_eq j (slot_now k)) [
      | inl e ↦ absurd (not-over (asleep on now.is.process) p status (sym here ∙ sym (ap (place_at (drowsing on k).table) e) ∙ at) lives-here over)
      | inr ne ↦ sound.ended j p status (sym (there j ne) ∙ at) over
    ];
    vacant = λ j at. elim (cases_eq j (slot_now k)) [
      | inl e ↦ absurd (none-some (asleep on now.is.process) (sym at ∙ ap (place_at (drowsing on k).table) e ∙ here))
      | inr ne ↦ sound.vacant j (sym (there j ne) ∙ at)
    ];
    current = λ j at.
        let slot : slot_now k ≡ j = same_Some (slot_now k) j (sym now.current ∙ at) in
        subst (IsCurrent (drowsing on k) h) slot (record { process = asleep on now.is.process; is = here; live = lives-here; runs = now.is.runs });
    idle = sound.idle;
  }

  pub drowsing-state : state_of (drowsing on k) h ≡ state_of k h
  unfolding state_of
  drowsing-state =
      let i = slot_now k in
      let alone : Alone k (drowsing on k) i = record {
        places = there;
        files = λ j ne. refl;
        each = λ j ne. refl;
        ran = λ j ne. not-this i j k.current now.current ne;
        runs = λ j ne. not-this i j k.current now.current ne;
      } in
      let entry : entry_at (drowsing on k) h i ≡ entry_at k h i =
      ap (entry_of (drowsing on k) h i) here
      ∙ ap (λ x. Some (now.is.process.pid, x)) (asleep-means on now.is.process (descriptors_at k.table i) (held_at (each_of k.memories) i) (regs_at k h i))
      ∙ sym (ap (entry_of k h i) now.is.is) in
      let processes : by_pid (entry_at (drowsing on k) h) NPROC ≡ by_pid (entry_at k h) NPROC =
      by_pid-same (entry_at k h) (entry_at (drowsing on k) h) NPROC (λ j. elim (cases_eq j i) [
        | inl e ↦ ap (entry_at (drowsing on k) h) e ∙ entry ∙ sym (ap (entry_at k h) e)
        | inr ne ↦ alone-entries k (drowsing on k) h h i alone j ne
      ]) in
      ap (λ m. record (state_of k h) { processes = m }) processes

-- ---- in its call, and on the channel

module _ (k : Kernel) (h : Hart) (slot : ℕ) (c : Call) (t : Slots) (sound : IsSound k h) (runs : IsRunning k) (is : k.current ≡ Some slot)
    (noted-call : t ≡ changed_at slot (in_call (Some c)) k.table) where
  same-slot : slot ≡ slot_now k
  same-slot = sym (ap or_zero is)

  called-sound : IsSound (noted k t) h
  called-sound = (is-in-call k h (Some c) h.regs (noted k t) h sound runs (progress-set k slot (Some c) t is noted-call) refl).sound

  pub called-live : IsLiveAt t slot
  called-live = let now = called-sound.current slot is in live-place (noted k t) slot now.process now.is now.live

  module _ (on : Channel) (u : Slots) (slept : u ≡ changed_at slot (asleep on) t) where
    is-drowsing : noted k u ≡ drowsing on (noted k t)
    is-drowsing = ap (noted k) (slept ∙ ap (λ n. changed_at n (asleep on) t) same-slot)

    pub blocked-sound : IsSound (noted k u) h
    blocked-sound = subst (λ x. IsSound x h) (sym is-drowsing) (drowsing-sound (noted k t) h on called-sound runs)

    pub blocked-state : state_of (noted k u) h ≡ own_state (pid_now k) (update.in_call c (live_now k h)) (state_of k h)
    blocked-state =
        ap (λ x. state_of x h) is-drowsing ∙ drowsing-state (noted k t) h on called-sound runs
        ∙ (is-in-call k h (Some c) h.regs (noted k t) h sound runs (progress-set k slot (Some c) t is noted-call) refl).state
