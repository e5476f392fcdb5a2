-- The first process comes into slot 0.
use Rattle.kcall_core.proofs.Prelude.{ℕ, ℤ, ◌+◌, ◌-◌, ◌<◌, ◌∙◌, ◌≡◌, ◌≢◌, Alive, ap, arith, by_pid, cases_eq, cond, descriptor_map, descriptors_at, each_of, empty, empty_state, entry_at, entry_of}
use Rattle.kcall_core.proofs.Prelude.{first_process, first_regs, first_state, free_of, fresh, gathered, get_or, get_or-set_other, get_or-set_same, Hart, HasMemory, HasNoProcess, Held, held_at}
use Rattle.kcall_core.proofs.Prelude.{held_cost, held_in, inl, inr, insert, is_this, IsSome, IsSound, IsTable, IsVacant, Kernel, length, length-map, Loaded, map, Memories, Memory, named_file, newborn}
use Rattle.kcall_core.proofs.Prelude.{no_process, None, none-some, none_named, none_open, NPROC, open_file_at, OPEN_FILES, or_nothing, pipes_of, place_at, price, Process, process_of, refl, Registers}
use Rattle.kcall_core.proofs.Prelude.{same_Some, set, slot_for_new, SlotChanges, Slots, Some, State, state_of, status_of, subst, sym, table_new, with_new, with_saved}
use Rattle.kcall_core.proofs.table.ByPid.{by_pid-insert}
use Rattle.kcall_core.proofs.memory.Births.{get_or-same}
use Rattle.kcall_core.proofs.memory.Changes.{each-at}
use Rattle.kcall_core.proofs.memory.Lists.{set-twice}
use Rattle.kcall_core.proofs.table.NoProcess.{no-process-state}
use Rattle.kcall_core.proofs.table.Stops.{Rest}
use Rattle.kcall_core.specs.Memories as memories

-- pid 1 is there, and its frames are taken
abbrev pub started_state : Loaded → State → State
started_state l s = record s {
  processes = insert s.processes 1 (Alive (first_process l));
  next_pid = 2;
  free = s.free - price l.image - 1;
}

-- what is held in slot 0 of the first process
abbrev pub first_held : Loaded → Held
first_held l = record { image = l.image; saved = first_regs l }

-- the slot is filled, and then its trapframe is
pub record Filled (old new : Memories) (l : Loaded) : Type 0 where
  pub sound : memories.AreSound new
  pub each : each_of new ≡ set (each_of old) 0 (Some (first_held l))
  pub pipes : pipes_of new ≡ pipes_of old
  pub free : free_of new + (price l.image + 1) ≡ free_of old
  pub frames : length new.ram ≡ length old.ram

pub vacant-slot : {k : Kernel} {h : Hart} → IsSound k h → HasNoProcess k → (j : ℕ) → get_or (each_of k.memories) j None ≡ None
vacant-slot {k} {h} sound blank j = sound.vacant j (ap (λ (t : Slots). place_at t j) blank.table ∙ get_or-same None NPROC j)

pub filled : {old middle new : Memories} {l : Loaded} (regs : Registers) → 0 < length (each_of old) → get_or (each_of old) 0 None ≡ None
    → SlotChanges old middle 0 (Some (record { image = l.image; saved = fresh 0 }))
    → SlotChanges middle new 0 (Some (with_saved regs (held_at (each_of middle) 0))) → regs ≡ first_regs l → Filled old new l
filled {old} {middle} {new} {l} regs lt vacant first second is =
    let here : get_or (each_of middle) 0 None ≡ Some (record { image = l.image; saved = fresh 0 }) = ap (λ xs. get_or xs 0 None) first.each
    ∙ get_or-set_same (each_of old) 0 (Some (record { image = l.image; saved = fresh 0 })) None lt in
    let held : with_saved regs (held_at (each_of middle) 0) ≡ first_held l = ap (λ o. with_saved regs (or_nothing o)) here ∙ ap (λ r. with_saved r (record { image = l.image; saved = fresh 0 })) is in
    record {
      sound = second.sound;
      each = second.each ∙ (λ t. set (first.each t) 0 (Some (held t))) ∙ set-twice (each_of old) 0 (Some (record { image = l.image; saved = fresh 0 })) (Some (first_held l));
      pipes = second.pipes ∙ first.pipes;
      free = omega (arith, first.free, second.free, ap held_cost vacant, ap held_cost here, ap (λ (x : Held). price x.image) held);
      frames = second.frames ∙ first.frames;
    }

module _ (k k' : Kernel) (h h' : Hart) (l : Loaded) (sound : IsSound k h) (blank : HasNoProcess k) (lt : 0 < length (each_of k.memories))
    (changes : Filled k.memories k'.memories l) (table : k'.table ≡ with_new 0 None k.table) (current : k'.current ≡ k.current) where
  was-none : (j : ℕ) → place_at k.table j ≡ None
  was-none j = ap (λ (t : Slots). place_at t j) blank.table ∙ get_or-same None NPROC j

  table-long : 0 < length k.table.places
  table-long = omega (arith, sound.table.places)

  here : place_at k'.table 0 ≡ Some (newborn 1 None)
  here = ap (λ (t : Slots). place_at t 0) table ∙ get_or-set_same k.table.places 0 (Some (newborn k.table.next None)) None table-long ∙ ap (λ (t : Slots). Some (newborn t.next None)) blank.table

  other : (j : ℕ) → j ≢ 0 → place_at k'.table j ≡ None
  other j ne = ap (λ (t : Slots). place_at t j) table ∙ get_or-set_other k.table.places 0 j (Some (newborn k.table.next None)) None ne ∙ was-none j

  memory-here : get_or (each_of k'.memories) 0 None ≡ Some (first_held l)
  memory-here = ap (λ xs. get_or xs 0 None) changes.each ∙ get_or-set_same (each_of k.memories) 0 (Some (first_held l)) None lt

  memory-other : (j : ℕ) → j ≢ 0 → get_or (each_of k'.memories) j None ≡ None
  memory-other j ne = ap (λ xs. get_or xs j None) changes.each ∙ get_or-set_other (each_of k.memories) 0 j (Some (first_held l)) None ne ∙ sound.vacant j (was-none j)

  new-table : IsTable k'.table
  new-table =
      subst IsTable (sym table) (table_new k.table 0 (newborn k.table.next None) none_named sound.table refl (omega (arith, ap (λ (t : Slots). t.next) blank.table)))

  stopped : k'.current ≡ None
  stopped = current ∙ blank.current

  not-zombie : (p : Process) (status : ℤ) → Some (newborn 1 None) ≡ Some p → status_of p ≡ Some status → ⊥
  not-zombie p status same over = let e : newborn 1 None ≡ p = cc in none-some status (ap status_of e ∙ over)

  no-memory : (j : ℕ) (m : Memory) → get_or k.memories.each.items j None ≡ Some m → ⊥
  no-memory j m is =
      let held : get_or (each_of k.memories) j None ≡ held_in k.memories.ram (Some m) = each-at k.memories j ∙ ap (held_in k.memories.ram) is in
      let none : None ≡ held_in k.memories.ram (Some m) = sym (vacant-slot sound blank j) ∙ held in
      cc

  pub started-sound : h'.root ≡ h.root → h'.cache ≡ h.cache → IsSound k' h'
  started-sound root cache = record {
    memories = changes.sound;
    table = new-table;
    lives = λ j p at live. elim (cases_eq j 0) [
      | inl e ↦ subst (HasMemory (each_of k'.memories)) (sym e) (subst (λ o. IsSome o) (sym memory-here) refl)
      | inr ne ↦ absurd (none-some p (sym (other j ne) ∙ at))
    ];
    ended = λ j p status at over. elim (cases_eq j 0) [
      | inl e ↦ absurd (not-zombie p status (sym (ap (place_at k'.table) e ∙ here) ∙ at) over)
      | inr ne ↦ absurd (none-some p (sym (other j ne) ∙ at))
    ];
    vacant = λ j at. elim (cases_eq j 0) [
      | inl e ↦ absurd (none-some (newborn 1 None) (sym at ∙ ap (place_at k'.table) e ∙ here))
      | inr ne ↦ memory-other j ne
    ];
    current = λ j at. absurd (none-some j (sym stopped ∙ at));
    idle = λ e. elim (sound.idle blank.current) [
      | inl idle ↦ inl (root ∙ idle.0, cache ∙ idle.1)
      | inr parked ↦ absurd (no-memory parked.0 parked.1.memory parked.1.is)
    ];
  }

  no-descriptors : descriptors_at k'.table 0 ≡ none_named
  no-descriptors = ap (λ (t : Slots). descriptors_at t 0) table ∙ get_or-set_same k.table.descriptors 0 none_named none_named (omega (arith, sound.table.descriptors))

  none-open : descriptor_map none_named ≡ empty
  unfolding gathered
  none-open = refl

  pub started-is : Rest k k' → state_of k' h' ≡ started_state l (state_of k h)
  unfolding state_of
  started-is rest =
      let after : entry_at k' h' 0 ≡ Some (1, Alive (first_process l)) =
      ap (entry_of k' h' 0) here
      ∙ (λ t. Some (1, process_of (newborn 1 None) (no-descriptors t) (or_nothing (memory-here t)) (cond (is_this 0 (stopped t)) h'.regs (or_nothing (memory-here t)).saved)))
      ∙ ap (λ d. Some (1, Alive (record (first_process l) { descriptors = d }))) none-open in
      let processes : by_pid (entry_at k' h') NPROC ≡ insert (by_pid (entry_at k h) NPROC) 1 (Alive (first_process l)) =
      by_pid-insert (entry_at k h) (entry_at k' h') 64 0 1 (Alive (first_process l)) (omega arith) after
      (λ j below ne. ap (entry_of k' h' j) (other j ne) ∙ sym (ap (entry_of k h j) (was-none j)))
      (λ e at. absurd (none-some e (sym (ap (entry_of k h 0) (was-none 0)) ∙ at)))
      (λ j e below ne at same. none-some e (sym (ap (entry_of k h j) (was-none j)) ∙ at)) in
      let free : free_of k'.memories ≡ free_of k.memories - price l.image - 1 = omega (arith, changes.free) in
      let next : k'.table.next ≡ 2 = ap (λ (t : Slots). t.next) table ∙ ap (λ (t : Slots). t.next + 1) blank.table in
      λ t. record {
        processes = processes t;
        files = gathered (open_file_at (rest.files t)) OPEN_FILES;
        pipes = changes.pipes t;
        console = rest.console t;
        clock = rest.clock t;
        next_pid = next t;
        free = free t;
        programs = map named_file (rest.programs t);
      }

-- ---- the whole start

each-length : (m : Memories) → memories.AreSound m → length (each_of m) ≡ NPROC
unfolding each_of
each-length m sound = length-map m.each.items (held_in m.ram) ∙ sound.slots

pub blank-vacant : {k : Kernel} {h : Hart} → IsSound k h → HasNoProcess k → IsVacant (each_of k.memories) 0
blank-vacant {k} {h} sound blank = (omega (arith, each-length k.memories sound.memories), vacant-slot sound blank 0)

pub slot-zero : (k : Kernel) (slot : ℕ) → HasNoProcess k → slot_for_new k.table ≡ Some slot → slot ≡ 0
slot-zero k slot blank is = same_Some slot 0 (sym is ∙ ap slot_for_new blank.table)

-- slot 0 has a memory once it is filled
pub first-has : {k : Kernel} {h : Hart} (middle : Memories) (slot : ℕ) (x : Held) → IsSound k h → SlotChanges k.memories middle 0 (Some x) → slot ≡ 0 → HasMemory (each_of middle) slot
first-has {k} {h} middle slot x sound changes zero-slot =
    let here : get_or (each_of middle) slot None ≡ Some x =
    (λ t. get_or (changes.each t) (zero-slot t) None) ∙ get_or-set_same (each_of k.memories) 0 (Some x) None (omega (arith, each-length k.memories sound.memories)) in
    subst (λ o. IsSome o) (sym here) refl

-- what the start leaves
pub record Begins (k : Kernel) (h : Hart) (k' : Kernel) (h' : Hart) (l : Loaded) : Type 0 where
  pub sound : IsSound k' h'
  pub state : state_of k' h' ≡ record (first_state (free_of k.memories) (map named_file k.programs.items) l) { console = k.console; clock = k.clock }
  pub table : k'.table ≡ with_new 0 None (no_process 1)
  pub current : k'.current ≡ None
  pub files : k'.files ≡ none_open
  pub frames : length k'.memories.ram ≡ length k.memories.ram

pub begins : {k k' : Kernel} {h h' : Hart} {middle : Memories} {slot : ℕ} (l : Loaded) (regs : Registers) → IsSound k h → HasNoProcess k
    → SlotChanges k.memories middle 0 (Some (record { image = l.image; saved = fresh 0 }))
    → SlotChanges middle k'.memories slot (Some (with_saved regs (held_at (each_of middle) slot))) → slot ≡ 0 → regs ≡ first_regs l
    → k'.table ≡ with_new slot None k.table → k'.current ≡ k.current → h'.root ≡ h.root → h'.cache ≡ h.cache → Rest k k'
    → Begins k h k' h' l
begins {k} {k'} {h} {h'} {middle} {slot} l regs sound blank first second zero-slot is table current root cache rest =
    let lt : 0 < length (each_of k.memories) = omega (arith, each-length k.memories sound.memories) in
    let changes : Filled k.memories k'.memories l = filled regs lt (vacant-slot sound blank 0) first
    (subst (λ n. SlotChanges middle k'.memories n (Some (with_saved regs (held_at (each_of middle) n)))) zero-slot second) is in
    let made : k'.table ≡ with_new 0 None k.table = table ∙ ap (λ n. with_new n None k.table) zero-slot in
    let before : state_of k h ≡ record (empty_state (free_of k.memories) (map named_file k.programs.items))
    { console = k.console; clock = k.clock } = no-process-state k h blank.table (free_of k.memories) blank.files blank.pipes refl in
    record {
      sound = started-sound k k' h h' l sound blank lt changes made current root cache;
      state = started-is k k' h h' l sound blank lt changes made current rest ∙ ap (started_state l) before;
      table = made ∙ ap (with_new 0 None) blank.table;
      current = current ∙ blank.current;
      files = rest.files ∙ blank.files;
      frames = changes.frames;
    }
