-- The process that runs is in another call from now on, or in none, and has other registers.
use Rattle.kcall_core.proofs.Prelude.{ℕ, ◌∙◌, ◌≡◌, ◌≢◌, Alive, ap, arith, Bool, by_status, Call, call_at, call_of, cases_eq, changed_at, cond, descriptors_at, each_of, entry_at, entry_of, eq-eqb}
use Rattle.kcall_core.proofs.Prelude.{get_or-set_other, get_or-set_same, Hart, Held, held_at, in_call, inl, inr, is_marked, is_this, IsCurrent, IsRunning, IsSound, IsTable, Kernel, List, live_now}
use Rattle.kcall_core.proofs.Prelude.{live_of, Live_state as Live, mark_at, None, none-some, Option, option_map, or_nobody, or_zero, own_state, pid_now, place_at, place_now, Process, process_of, refl}
use Rattle.kcall_core.proofs.Prelude.{Registers, same_Some, set, slot_now, Slots, Some, state_in_call, state_of, state_status, status_of, subst, sym, table_at, Zombie_state as Zombie}
use Rattle.proc_table.specs.declared.process.State.{State}
use Rattle.kcall_core.proofs.table.States.{Alone, Running, running, slot-state, not-this, runs-regs, not-over}
use Rattle.kcall_core.proofs.table.Stops.{read-some}
use Rattle.kcall_core.proofs.turns.Chosen.{noted}

-- ---- a process in another call

status-stays : (call : Option Call) (s : State) → state_status (state_in_call call s) ≡ state_status s
status-stays call (Live life) = refl
status-stays call (Zombie status) = refl

-- what a live process means, in the other call and with other registers
live-stays : (call : Option Call) (p : Process) (files : List (Option ℕ)) (held : Held) (before regs : Registers) → status_of p ≡ None
    → live_of (in_call call p) files held regs ≡ record (live_of p files held before) { regs = regs; call = call }
live-stays call p files held before regs live = by p.state live
  where
    by : (s : State) → state_status s ≡ None
        → live_of (in_call call (record p { state = s })) files held regs ≡ record (live_of (record p { state = s }) files held before) { regs = regs; call = call }
    by (Live life) e = refl
    by (Zombie status) e = absurd (none-some status (sym e))

-- ---- the kernel

-- the kernel in which the process that runs is in this call
abbrev pub calling : Option Call → Kernel → Kernel
calling call k = noted k (changed_at (slot_now k) (in_call call) k.table)

abbrev pub moved : Registers → Hart → Hart
moved regs h = record h { regs = regs }

module _ (k : Kernel) (h : Hart) (call : Option Call) (regs : Registers) (sound : IsSound k h) (runs : IsRunning k) where
  now : Running k h
  now = running k h sound runs

  here : place_at (calling call k).table (slot_now k) ≡ Some (in_call call now.is.process)
  here = get_or-set_same k.table.places (slot_now k) (option_map (in_call call) (place_at k.table (slot_now k))) None
      (omega (arith, now.inside, sound.table.places)) ∙ ap (option_map (in_call call)) now.is.is

  there : (j : ℕ) → j ≢ slot_now k → place_at (calling call k).table j ≡ place_at k.table j
  there j ne = get_or-set_other k.table.places (slot_now k) j (option_map (in_call call) (place_at k.table (slot_now k))) None ne

  live-here : status_of (in_call call now.is.process) ≡ None
  live-here = status-stays call now.is.process.state ∙ now.is.live

  table-here : IsTable (calling call k).table
  table-here =
      let i = slot_now k in
      let p = now.is.process in
      subst IsTable (ap (λ o. record k.table { places = set k.table.places i (option_map (in_call call) o) }) (sym now.is.is))
      (table_at k.table i (Some p) p (in_call call p) sound.table now.inside (sym (read-some k.table.places i p now.is.is)) refl refl)

  place-is : now.is.process ≡ place_now k
  place-is = ap or_nobody (sym now.is.is)

  calling-sound : IsSound (calling call k) (moved regs h)
  calling-sound = record {
    memories = sound.memories;
    table = table-here;
    lives = λ j p at live. elim (cases_eq j (slot_now k)) [
      | inl e ↦ sound.lives j now.is.process (ap (place_at k.table) e ∙ now.is.is) now.is.live
      | inr ne ↦ sound.lives j p (sym (there j ne) ∙ at) live
    ];
    ended = λ j p status at over. elim (cases_eq j (slot_now k)) [
      | inl e ↦ absurd (not-over (in_call call now.is.process) p status (sym here ∙ sym (ap (place_at (calling call k).table) e) ∙ at) live-here over)
      | inr ne ↦ sound.ended j p status (sym (there j ne) ∙ at) over
    ];
    vacant = λ j at. elim (cases_eq j (slot_now k)) [
      | inl e ↦ absurd (none-some (in_call call now.is.process) (sym at ∙ ap (place_at (calling call k).table) e ∙ here))
      | inr ne ↦ sound.vacant j (sym (there j ne) ∙ at)
    ];
    current = λ j at.
        let slot : slot_now k ≡ j = same_Some (slot_now k) j (sym now.current ∙ at) in
        subst (IsCurrent (calling call k) (moved regs h)) slot
        (record { process = in_call call now.is.process; is = here; live = live-here; runs = runs-regs k.memories (slot_now k) h regs now.is.runs });
    idle = λ at. absurd (none-some (slot_now k) (sym at ∙ now.current));
  }

  calling-live : live_now (calling call k) (moved regs h) ≡ record (live_now k h) { regs = regs; call = call }
  calling-live =
      let files = descriptors_at k.table (slot_now k) in
      let held = held_at (each_of k.memories) (slot_now k) in
      ap (λ o. live_of (or_nobody o) files held regs) here
      ∙ live-stays call now.is.process files held h.regs regs now.is.live
      ∙ ap (λ (p : Process). record (live_of p files held h.regs) { regs = regs; call = call }) place-is

  calling-state : state_of (calling call k) (moved regs h) ≡ own_state (pid_now k) (record (live_now k h) { regs = regs; call = call }) (state_of k h)
  unfolding state_of
  calling-state =
      let i = slot_now k in
      let p = now.is.process in
      let files = descriptors_at k.table i in
      let held = held_at (each_of k.memories) i in
      let alone : Alone k (calling call k) i = record {
        places = there;
        files = λ j ne. refl;
        each = λ j ne. refl;
        ran = λ j ne. not-this i j k.current now.current ne;
        runs = λ j ne. not-this i j k.current now.current ne;
      } in
      let entry : entry_at (calling call k) (moved regs h) i ≡ Some (p.pid, Alive (record (live_of p files held h.regs) { regs = regs; call = call })) =
      ap (entry_of (calling call k) (moved regs h) i) here
      ∙ ap (λ b. Some (p.pid, process_of (in_call call p) files held (cond b regs held.saved))) (ap (is_this i) now.current ∙ eq-eqb i i refl)
      ∙ ap (λ o. Some (p.pid, by_status p.parent (live_of (in_call call p) files held regs) o)) live-here
      ∙ ap (λ l. Some (p.pid, Alive l)) (live-stays call p files held h.regs regs now.is.live) in
      let processes = slot-state k (calling call k) h (moved regs h) i p (Alive (record (live_of p files held h.regs) { regs = regs; call = call })) sound now.is.is alone entry in
      ap (λ m. record (state_of k h) { processes = m }) processes
      ∙ ap (λ (q : Process). own_state q.pid (record (live_of q files held h.regs) { regs = regs; call = call }) (state_of k h)) place-is

-- ---- all of it

-- the process that runs is in this call and has these registers, and nothing else is another
pub record IsInCall (k : Kernel) (h : Hart) (call : Option Call) (regs : Registers) (k' : Kernel) (h' : Hart) : Type 0 where
  pub sound : IsSound k' h'
  pub live : live_now k' h' ≡ record (live_now k h) { regs = regs; call = call }
  pub state : state_of k' h' ≡ own_state (pid_now k) (record (live_now k h) { regs = regs; call = call }) (state_of k h)

pub is-in-call : (k : Kernel) (h : Hart) (call : Option Call) (regs : Registers) (k' : Kernel) (h' : Hart) → IsSound k h → IsRunning k → k' ≡ calling call k → h' ≡ moved regs h
    → IsInCall k h call regs k' h'
is-in-call k h call regs k' h' sound runs kernel hart =
    subst (λ x. IsInCall k h call regs x h') (sym kernel) (subst (IsInCall k h call regs (calling call k)) (sym hart) (record {
      sound = calling-sound k h call regs sound runs;
      live = calling-live k h call regs sound runs;
      state = calling-state k h call regs sound runs;
    }))

-- the table as `set_progress` leaves it
pub progress-set : (k : Kernel) (slot : ℕ) (call : Option Call) (table : Slots) → k.current ≡ Some slot → table ≡ changed_at slot (in_call call) k.table → noted k table ≡ calling call k
progress-set k slot call table is e = ap (noted k) (e ∙ ap (λ n. changed_at n (in_call call) k.table) (sym (ap or_zero is)))

-- ---- what the table tells of the process that runs

pub mark-told : (k : Kernel) (slot : ℕ) (marked : Bool) → slot_now k ≡ slot → mark_at k.table slot ≡ Some marked → marked ≡ is_marked (place_now k)
mark-told k slot marked e told = by (place_at k.table slot) told ∙ sym (ap (λ n. is_marked (or_nobody (place_at k.table n))) e)
  where
    by : (o : Option Process) → option_map is_marked o ≡ Some marked → marked ≡ is_marked (or_nobody o)
    by None at = absurd (none-some marked at)
    by (Some p) at = cc

pub call-told : (k : Kernel) (slot : ℕ) (call : Option Call) → slot_now k ≡ slot → call_at k.table slot ≡ Some call → call ≡ call_of (place_now k)
call-told k slot call e told = by (place_at k.table slot) told ∙ sym (ap (λ n. call_of (or_nobody (place_at k.table n))) e)
  where
    by : (o : Option Process) → option_map call_of o ≡ Some call → call ≡ call_of (or_nobody o)
    by None at = absurd (none-some call at)
    by (Some p) at = cc
