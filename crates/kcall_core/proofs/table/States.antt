-- How a change of one slot shows in the state.
use Rattle.kcall_core.proofs.Prelude.{ℕ, ℤ, ◌<◌, ◌∙◌, ◌≡◌, ◌≢◌, Alive, ap, arith, by_pid, by_status, cases_eq, cases_lt, cond, descriptors_at, each_of, entry_at, entry_of, eq-eqb, eqb_tells, false}
use Rattle.kcall_core.proofs.Prelude.{false≢true, free_of, gathered, get_or, get_or-set_other, get_or-set_same, get_or_past, Hart, HasMemory, Held, held_at, inl, inr, insert, is_this, IsCurrent}
use Rattle.kcall_core.proofs.Prelude.{IsRunning, IsSome, IsSound, IsTable, Kernel, length, List, live_of, map, Memories, named_file, None, none-some, NPROC, open_file_at, OPEN_FILES, Option}
use Rattle.kcall_core.proofs.Prelude.{or_nobody, or_nothing, or_zero, pid_now, pipes_of, place_at, place_now, Process, process_of, refl, Registers, regs_at, RunsIn, same_Some, set_live, slot_now}
use Rattle.kcall_core.proofs.Prelude.{SlotChanges, Slots, Some, state_of, status_of, subst, sym}
use Rattle.kcall_core.proofs.table.ByPid.{by_pid-insert}
use Rattle.kcall_core.proofs.memory.Changes.{some-inside}
use Rattle.kernel_spec.specs.views.Processes as meaning
use Rattle.kcall_core.specs.Memories as memories

-- the pid of an entry
pub entry-pid : (k : Kernel) (h : Hart) (j : ℕ) (o : Option Process) (e : ℕ × meaning.Process) → entry_of k h j o ≡ Some e → (p : Process) × (o ≡ Some p) × (e.0 ≡ p.pid)
entry-pid k h j None e is = absurd (none-some e is)
entry-pid k h j (Some p) e is =
    let x = process_of p (descriptors_at k.table j) (held_at (each_of k.memories) j) (regs_at k h j) in
    (p, refl, let same : e ≡ (p.pid, x) = cc in ap (λ (y : ℕ × meaning.Process). y.0) same)

-- no two slots have entries of one pid
pids-apart : (k : Kernel) (h : Hart) → IsSound k h → (i : ℕ) (p : Process) → place_at k.table i ≡ Some p → (j : ℕ) (e : ℕ × meaning.Process) → j ≢ i → entry_at k h j ≡ Some e → e.0 ≢ p.pid
pids-apart k h sound i p here j e ne is same =
    let at = entry-pid k h j (place_at k.table j) e is in
    ne (sound.table.pids.apart j i at.0 p at.1 here (sym at.2 ∙ same))

-- a slot that has a process is one
pub slot-inside : (k : Kernel) (h : Hart) → IsSound k h → (i : ℕ) (p : Process) → place_at k.table i ≡ Some p → i < 64
slot-inside k h sound i p is = elim (cases_lt i 64) [
  | inl lt ↦ lt
  | inr ge ↦ absurd (none-some p (sym (get_or_past k.table.places i None (omega (arith, sound.table.places, ge))) ∙ is))
]

-- the process that runs
pub record Running (k : Kernel) (h : Hart) : Type 0 where
  pub current : k.current ≡ Some (slot_now k)
  pub is : IsCurrent k h (slot_now k)
  pub inside : slot_now k < 64

pub running : (k : Kernel) (h : Hart) → IsSound k h → IsRunning k → Running k h
running k h sound runs = by k.current refl runs
  where
    by : (o : Option ℕ) → k.current ≡ o → IsSome o → Running k h
    by None is some = absurd (false≢true some)
    by (Some i) is some =
        let slot : i ≡ slot_now k = sym (ap or_zero is) in
        let c : IsCurrent k h (slot_now k) = subst (IsCurrent k h) slot (sound.current i is) in
        record { current = is ∙ ap Some slot; is = c; inside = slot-inside k h sound (slot_now k) c.process c.is }

-- every slot but i stands for what it stood for; none of them ran, and none runs
pub record Alone (k k' : Kernel) (i : ℕ) : Type 0 where
  pub places : (j : ℕ) → j ≢ i → place_at k'.table j ≡ place_at k.table j
  pub files : (j : ℕ) → j ≢ i → descriptors_at k'.table j ≡ descriptors_at k.table j
  pub each : (j : ℕ) → j ≢ i → get_or (each_of k'.memories) j None ≡ get_or (each_of k.memories) j None
  pub ran : (j : ℕ) → j ≢ i → is_this j k.current ≡ false
  pub runs : (j : ℕ) → j ≢ i → is_this j k'.current ≡ false

pub not-this : (i j : ℕ) (o : Option ℕ) → o ≡ Some i → j ≢ i → is_this j o ≡ false
not-this i j o is ne = ap (is_this j) is ∙ elim (eqb_tells i j) [ inl h ↦ absurd (ne (sym h.1)) | inr h ↦ h.0 ]

-- every slot but i stands for what it stood for, whoever runs
pub record Beside (k k' : Kernel) (h h' : Hart) (i : ℕ) : Type 0 where
  pub places : (j : ℕ) → j ≢ i → place_at k'.table j ≡ place_at k.table j
  pub files : (j : ℕ) → j ≢ i → descriptors_at k'.table j ≡ descriptors_at k.table j
  pub each : (j : ℕ) → j ≢ i → get_or (each_of k'.memories) j None ≡ get_or (each_of k.memories) j None
  pub regs : (j : ℕ) → j ≢ i → regs_at k' h' j ≡ regs_at k h j

-- none of the others ran, and none runs
alone-beside : (k k' : Kernel) (h h' : Hart) (i : ℕ) → Alone k k' i → Beside k k' h h' i
alone-beside k k' h h' i a = record {
  places = a.places;
  files = a.files;
  each = a.each;
  regs = λ j ne.
      ap (λ b. cond b h'.regs (held_at (each_of k'.memories) j).saved) (a.runs j ne) ∙ ap (λ o. (or_nothing o).saved) (a.each j ne)
      ∙ sym (ap (λ b. cond b h.regs (held_at (each_of k.memories) j).saved) (a.ran j ne));
}

-- or the one that ran runs on, on the same hart
pub current-beside : (k k' : Kernel) (h : Hart) (i : ℕ) → k'.current ≡ k.current → ((j : ℕ) → j ≢ i → place_at k'.table j ≡ place_at k.table j)
    → ((j : ℕ) → j ≢ i → descriptors_at k'.table j ≡ descriptors_at k.table j)
    → ((j : ℕ) → j ≢ i → get_or (each_of k'.memories) j None ≡ get_or (each_of k.memories) j None) → Beside k k' h h i
current-beside k k' h i current places files each = record { places = places; files = files; each = each; regs = λ j ne. (λ t. cond (is_this j (current t)) h.regs (or_nothing (each j ne t)).saved) }

beside-entries : (k k' : Kernel) (h h' : Hart) (i : ℕ) → Beside k k' h h' i → (j : ℕ) → j ≢ i → entry_at k' h' j ≡ entry_at k h j
beside-entries k k' h h' i a j ne = ap (entry_of k' h' j) (a.places j ne) ∙ under (place_at k.table j) (ap or_nothing (a.each j ne)) (a.regs j ne) (a.files j ne)
  where
    under : (o : Option Process) → held_at (each_of k'.memories) j ≡ held_at (each_of k.memories) j → regs_at k' h' j ≡ regs_at k h j
        → descriptors_at k'.table j ≡ descriptors_at k.table j → entry_of k' h' j o ≡ entry_of k h j o
    under None held regs files = refl
    under (Some p) held regs files = λ t. Some (p.pid, process_of p (files t) (held t) (regs t))

pub alone-entries : (k k' : Kernel) (h h' : Hart) (i : ℕ) → Alone k k' i → (j : ℕ) → j ≢ i → entry_at k' h' j ≡ entry_at k h j
alone-entries k k' h h' i a = beside-entries k k' h h' i (alone-beside k k' h h' i a)

-- slot i, which has a process, now stands for another process of the same pid
pub slot-anew : (k k' : Kernel) (h h' : Hart) (i : ℕ) (p : Process) (x : meaning.Process) → IsSound k h → place_at k.table i ≡ Some p
    → Beside k k' h h' i → entry_at k' h' i ≡ Some (p.pid, x) → by_pid (entry_at k' h') NPROC ≡ insert (by_pid (entry_at k h) NPROC) p.pid x
slot-anew k k' h h' i p x sound is a here =
    by_pid-insert (entry_at k h) (entry_at k' h') 64 i p.pid x (slot-inside k h sound i p is) here
    (λ j lt ne. beside-entries k k' h h' i a j ne)
    (λ e at. let found = entry-pid k h i (place_at k.table i) e at in found.2 ∙ ap (λ o. (or_nobody o).pid) (sym found.1 ∙ is))
    (λ j e lt ne at same. pids-apart k h sound i p is j e ne at same)

pub slot-state : (k k' : Kernel) (h h' : Hart) (i : ℕ) (p : Process) (x : meaning.Process) → IsSound k h → place_at k.table i ≡ Some p → Alone k k' i
    → entry_at k' h' i ≡ Some (p.pid, x) → by_pid (entry_at k' h') NPROC ≡ insert (by_pid (entry_at k h) NPROC) p.pid x
slot-state k k' h h' i p x sound is a here = slot-anew k k' h h' i p x sound is (alone-beside k k' h h' i a) here

-- slot i, which was vacant, now stands for a process of the next pid
pub slot-born : (k k' : Kernel) (h h' : Hart) (i : ℕ) (x : meaning.Process) → IsSound k h → i < 64 → place_at k.table i ≡ None → Beside k k' h h' i
    → entry_at k' h' i ≡ Some (k.table.next, x) → by_pid (entry_at k' h') NPROC ≡ insert (by_pid (entry_at k h) NPROC) k.table.next x
slot-born k k' h h' i x sound below vacant a here =
    by_pid-insert (entry_at k h) (entry_at k' h') 64 i k.table.next x below here
    (λ j lt ne. beside-entries k k' h h' i a j ne)
    (λ e at. absurd (none-some e (sym (ap (entry_of k h i) vacant) ∙ at)))
    (λ j e lt ne at same. let f = entry-pid k h j (place_at k.table j) e at in omega (arith, f.2, same, sound.table.pids.below j f.0 f.1))

-- a live process of the table, with its memory and registers
alive : (p : Process) (files : List (Option ℕ)) (held : Held) (regs : Registers) → status_of p ≡ None → process_of p files held regs ≡ Alive (live_of p files held regs)
alive p files held regs is = ap (by_status p.parent (live_of p files held regs)) is

-- ---- the registers and the memory of the process that runs become others

-- the table stays, and so does who runs; the memories may change in the slot that runs
pub record Goes (k k' : Kernel) : Type 0 where
  pub table : k'.table ≡ k.table
  pub current : k'.current ≡ k.current
  pub each : (j : ℕ) → j ≢ slot_now k → get_or (each_of k'.memories) j None ≡ get_or (each_of k.memories) j None

pub goes-alone : (k k' : Kernel) (h : Hart) → Running k h → Goes k k' → Alone k k' (slot_now k)
goes-alone k k' h r goes = record {
  places = λ j ne. ap (λ (t : Slots). place_at t j) goes.table;
  files = λ j ne. ap (λ (t : Slots). descriptors_at t j) goes.table;
  each = goes.each;
  ran = λ j ne. not-this (slot_now k) j k.current r.current ne;
  runs = λ j ne. not-this (slot_now k) j k'.current (goes.current ∙ r.current) ne;
}

pub goes-processes : (k k' : Kernel) (h h' : Hart) → IsSound k h → IsRunning k → Goes k k'
    → by_pid (entry_at k' h') NPROC ≡ insert (by_pid (entry_at k h) NPROC) (pid_now k)
    (Alive (live_of (place_now k) (descriptors_at k.table (slot_now k)) (held_at (each_of k'.memories) (slot_now k)) h'.regs))
goes-processes k k' h h' sound runs goes =
    let r = running k h sound runs in
    let i = slot_now k in
    let p = r.is.process in
    let held = held_at (each_of k'.memories) i in
    let files = descriptors_at k.table i in
    let here : entry_at k' h' i ≡ Some (p.pid, Alive (live_of p files held h'.regs)) =
    ap (λ (t : Slots). entry_of k' h' i (place_at t i)) goes.table
    ∙ ap (entry_of k' h' i) r.is.is
    ∙ ap (λ (t : Slots). Some (p.pid, process_of p (descriptors_at t i) held (regs_at k' h' i))) goes.table
    ∙ ap (λ b. Some (p.pid, process_of p files held (cond b h'.regs held.saved))) (ap (is_this i) (goes.current ∙ r.current) ∙ eq-eqb i i refl)
    ∙ ap (λ x. Some (p.pid, x)) (alive p files held h'.regs r.is.live) in
    let place : p ≡ place_now k = ap or_nobody (sym r.is.is) in
    slot-state k k' h h' i p (Alive (live_of p files held h'.regs)) sound r.is.is (goes-alone k k' h r goes) here
    ∙ ap (λ (q : Process). insert (by_pid (entry_at k h) NPROC) q.pid (Alive (live_of q files held h'.regs))) place

-- all but the memories and the running process's registers stays
pub record GoesOn (k k' : Kernel) : Type 0 where
  pub goes : Goes k k'
  pub files : k'.files ≡ k.files
  pub pipes : pipes_of k'.memories ≡ pipes_of k.memories
  pub console : k'.console ≡ k.console
  pub programs : k'.programs.items ≡ k.programs.items
  pub clock : k'.clock ≡ k.clock

-- then the state's process is another, and so is the count of free frames
pub goes-state : (k k' : Kernel) (h h' : Hart) → IsSound k h → IsRunning k → GoesOn k k'
    → state_of k' h' ≡ record (set_live (pid_now k) (live_of (place_now k) (descriptors_at k.table (slot_now k))
    (held_at (each_of k'.memories) (slot_now k)) h'.regs) (state_of k h)) { free = free_of k'.memories }
unfolding state_of
goes-state k k' h h' sound runs on =
    let processes = goes-processes k k' h h' sound runs on.goes in
    λ t. record {
      processes = processes t;
      files = gathered (open_file_at (on.files t)) OPEN_FILES;
      pipes = on.pipes t;
      console = on.console t;
      clock = on.clock t;
      next_pid = (on.goes.table t).next;
      free = free_of k'.memories;
      programs = map named_file (on.programs t);
    }

-- a process that lives isn't one that has ended
pub not-over : (p q : Process) (status : ℤ) → Some p ≡ Some q → status_of p ≡ None → status_of q ≡ Some status → ⊥
not-over p q status same live over = let e : p ≡ q = cc in none-some status (sym live ∙ ap status_of e ∙ over)

-- and the kernel is sound, as long as the hart runs on in the slot
pub goes-sound : (k k' : Kernel) (h h' : Hart) → IsSound k h → IsRunning k → Goes k k' → memories.AreSound k'.memories
    → HasMemory (each_of k'.memories) (slot_now k) → RunsIn k'.memories (slot_now k) h' → IsSound k' h'
goes-sound k k' h h' sound runs goes sound' has runs' =
    let r = running k h sound runs in
    let table : (i : ℕ) → place_at k'.table i ≡ place_at k.table i = λ i. ap (λ (t : Slots). place_at t i) goes.table in
    record {
      memories = sound';
      table = subst IsTable (sym goes.table) sound.table;
      lives = λ i p at live. elim (cases_eq i (slot_now k)) [
        | inl e ↦ subst (HasMemory (each_of k'.memories)) (sym e) has
        | inr ne ↦ subst (λ o. IsSome o) (sym (goes.each i ne)) (sound.lives i p (sym (table i) ∙ at) live)
      ];
      ended = λ i p status at over. elim (cases_eq i (slot_now k)) [
        | inl e ↦ absurd (not-over r.is.process p status (sym (sym at ∙ table i ∙ ap (place_at k.table) e ∙ r.is.is)) r.is.live over)
        | inr ne ↦ goes.each i ne ∙ sound.ended i p status (sym (table i) ∙ at) over
      ];
      vacant = λ i at. elim (cases_eq i (slot_now k)) [
        | inl e ↦ absurd (none-some r.is.process (sym at ∙ table i ∙ ap (place_at k.table) e ∙ r.is.is))
        | inr ne ↦ goes.each i ne ∙ sound.vacant i (sym (table i) ∙ at)
      ];
      current = λ i is.
          let slot : slot_now k ≡ i = same_Some (slot_now k) i (sym r.current ∙ sym goes.current ∙ is) in
          subst (IsCurrent k' h') slot (record { process = r.is.process; is = table (slot_now k) ∙ r.is.is; live = r.is.live; runs = runs' });
      idle = λ is. absurd (none-some (slot_now k) (sym is ∙ goes.current ∙ r.current));
    }

-- ---- what a hart keeps doesn't depend on its registers

pub runs-regs : (m : Memories) (slot : ℕ) (h : Hart) (regs : Registers) → RunsIn m slot h → RunsIn m slot (record h { regs = regs })
runs-regs m slot h regs r = record { memory = r.memory; is = r.is; root = r.root; fits = r.fits }

-- ---- the memory in the slot that runs becomes another

module _ {k : Kernel} (k' : Kernel) {h : Hart} {x : Held} (sound : IsSound k h) (runs : IsRunning k) (table : k'.table ≡ k.table)
    (current : k'.current ≡ k.current) (changes : SlotChanges k.memories k'.memories (slot_now k) (Some x)) where
  changed-inside : slot_now k < length (each_of k.memories)
  changed-inside =
      let r = running k h sound runs in
      some-inside (each_of k.memories) (slot_now k) (sound.lives (slot_now k) r.is.process r.is.is r.is.live)

  pub changed-here : get_or (each_of k'.memories) (slot_now k) None ≡ Some x
  changed-here = ap (λ l. get_or l (slot_now k) None) changes.each ∙ get_or-set_same (each_of k.memories) (slot_now k) (Some x) None changed-inside

  pub changed-has : HasMemory (each_of k'.memories) (slot_now k)
  changed-has = subst (λ o. IsSome o) (sym changed-here) refl

  pub changed-goes : Goes k k'
  changed-goes = record {
    table = table;
    current = current;
    each = λ j ne. ap (λ l. get_or l j None) changes.each ∙ get_or-set_other (each_of k.memories) (slot_now k) j (Some x) None ne;
  }

-- ---- the registers and perhaps the memory become others

pub runs-same : {m : Memories} {slot : ℕ} {h h' : Hart} (regs : Registers) → h' ≡ record h { regs = regs } → RunsIn m slot h → RunsIn m slot h'
runs-same {m} {slot} {h} {h'} regs e r = subst (RunsIn m slot) (sym e) (runs-regs m slot h regs r)
