-- The kernel of the first process is whole, and stands for the first world.
use Rattle.kcall_core.proofs.Prelude.{ℕ, ◌+◌, ◌-◌, ◌∙◌, ◌≡◌, ◌≢◌, ◌≤◌, ap, AreCounted, arith, cases_eq, channel_of, Console, contains, contains-empty, count_below, CountedFile, descriptors_at, empty}
use Rattle.kcall_core.proofs.Prelude.{entry_count, false, first_process, first_state, first_turns, free_of, get-empty, get_or-set_other, get_or-set_same, Hart, HasNoProcess, if◌then◌else◌}
use Rattle.kcall_core.proofs.Prelude.{init_loaded, inl, inr, insert, is_this, IsSound, IsWhole, IsWithinLimits, Kernel, length, length-replicate, List, live_part, Loaded, map, named_by, named_file}
use Rattle.kcall_core.proofs.Prelude.{named_in, nat_cmp, newborn, no_process, NOFILE, None, none-some, none_named, none_open, NoReadySleeper, NPROC, Ok, OPEN_FILES, Option, option_map, or_zero}
use Rattle.kcall_core.proofs.Prelude.{pid_now, place_at, price, Process, ProgramFile, refl, replicate, sleeper_in, sleepers_below, slot_entry, Slots, slots_of, Some, started_world, State, state_of}
use Rattle.kcall_core.proofs.Prelude.{subst, suc, sum_below, sym, true, turns_of, WellFormed, with_new, with_sleeper, World, world_of, zero}
use Rattle.kcall_core.proofs.memory.Births.{get_or-same}
use Rattle.kcall_core.proofs.table.ByPid.{by_pid-insert}
use Rattle.kernel_spec.proofs.well.FirstWell.{state_well}
use Rattle.kcall_core.proofs.table.NoProcess.{none-by-pid}
use Rattle.kcall_core.proofs.table.Starting.{Begins}
use Rattle.kcall_core.proofs.making.Buffers.{no-call-keeps, changed-buffers}
use Rattle.std.specs.FinSet as set
use Rattle.file_table.specs.OpenFiles as files
use Rattle.kernel_spec.proofs.well.WellLaws as well

-- a place that nobody has, a descriptor that isn't in use, and a place without an open file
abbrev no-one : Option Process
no-one = None

abbrev unused : Option ℕ
unused = None

abbrev no-entry : Option CountedFile
no-entry = None

-- nobody sleeps where no place has a sleeper
pub none-asleep : (t : Slots) → ((j : ℕ) → sleeper_in (place_at t j) ≡ None) → (n : ℕ) → sleepers_below t n ≡ set.empty
unfolding sleepers_below
none-asleep t none zero = refl
none-asleep t none (suc n) = ap (λ o. with_sleeper o (sleepers_below t n)) (none n) ∙ none-asleep t none n

-- ---- a table with process 1 in slot 0, and nobody else

pub record HoldsFirst (t : Slots) : Type 0 where
  pub here : place_at t 0 ≡ Some (newborn 1 None)
  pub other : (j : ℕ) → j ≢ 0 → place_at t j ≡ None
  pub closed : (j : ℕ) → descriptors_at t j ≡ none_named
  pub last : t.last ≡ NPROC - 1

pub holds-first : HoldsFirst (with_new 0 None (no_process 1))
holds-first = record {
  here = get_or-set_same (replicate NPROC None) 0 (Some (newborn 1 None)) None (omega (arith, length-replicate NPROC no-one));
  other = λ j ne. get_or-set_other (replicate NPROC None) 0 j (Some (newborn 1 None)) None ne ∙ get_or-same None NPROC j;
  closed = λ j. elim (cases_eq j 0) [
    | inl e ↦ ap (descriptors_at (with_new 0 None (no_process 1))) e ∙ get_or-set_same (replicate NPROC none_named) 0 none_named none_named (omega (arith, length-replicate NPROC none_named))
    | inr ne ↦ get_or-set_other (replicate NPROC none_named) 0 j none_named none_named ne ∙ get_or-same none_named NPROC j
  ];
  last = refl;
}

module _ (t : Slots) (first : HoldsFirst t) where
  -- whoever stands in the table is awake
  all-awake : (j : ℕ) (p : Process) → place_at t j ≡ Some p → channel_of p ≡ None
  all-awake j p is = elim (cases_eq j 0) [
    | inl e ↦ same p (sym (ap (place_at t) e ∙ first.here) ∙ is)
    | inr ne ↦ absurd (none-some p (sym (first.other j ne) ∙ is))
  ]
    where
      same : (q : Process) → Some (newborn 1 None) ≡ Some q → channel_of q ≡ None
      same q e = let one : newborn 1 None ≡ q = cc in sym (ap channel_of one)

  no-sleeper : (j : ℕ) → sleeper_in (place_at t j) ≡ None
  no-sleeper j = elim (cases_eq j 0) [
    | inl e ↦ ap (λ n. sleeper_in (place_at t n)) e ∙ ap sleeper_in first.here
    | inr ne ↦ ap sleeper_in (first.other j ne)
  ]

  no-sleepers : (n : ℕ) → sleepers_below t n ≡ set.empty
  no-sleepers n = none-asleep t no-sleeper n

  only-slot : slots_of t ≡ insert empty 1 0
  unfolding slots_of
  only-slot =
      by_pid-insert (λ j. None) (λ slot. slot_entry slot (place_at t slot)) 64 0 1 0 (omega arith) (ap (slot_entry 0) first.here)
      (λ j below ne. ap (slot_entry j) (first.other j ne))
      (λ e at. absurd (none-some e at))
      (λ j e below ne at same. none-some e at)
      ∙ ap (λ m. insert m 1 0) (none-by-pid (λ j. None) 64 (λ j. refl))

-- ---- a table in which no descriptor is in use

module _ (t : Slots) (closed : (j : ℕ) → descriptors_at t j ≡ none_named) where
  unnamed : (file n : ℕ) → count_below (λ d. is_this file (named_by none_named d)) n ≡ 0
  unfolding count_below
  unnamed file zero = refl
  unnamed file (suc n) =
      let none : is_this file (named_by none_named n) ≡ false = ap (is_this file) (get_or-same None NOFILE n) in
      ap (λ b. count_below (λ d. is_this file (named_by none_named d)) n + (if b then 1 else 0)) none ∙ omega (arith, unnamed file n)

  never-named : (file n : ℕ) → sum_below n (λ slot. named_in (descriptors_at t slot) file) ≡ 0
  unfolding sum_below
  never-named file zero = refl
  never-named file (suc n) = omega (arith, never-named file n, ap (λ fs. named_in fs file) (closed n), unnamed file NOFILE)

  pub none-counted : AreCounted none_open t
  none-counted = record {
    counts = λ file. ap (λ o. or_zero (option_map entry_count o)) (get_or-same None OPEN_FILES file) ∙ sym (never-named file NPROC);
    lists = λ slot below. ap length (closed slot) ∙ length-replicate NOFILE unused;
    closed = λ slot e. closed slot;
  }

-- an empty table of open files
pub none-open-table : files.IsTable none_open
none-open-table = record {
  places = length-replicate OPEN_FILES no-entry;
  counts = λ file e is. absurd (none-some e (sym (get_or-same None OPEN_FILES file) ∙ is));
}

-- ---- the kernel

module _ (k : Kernel) (h : Hart) (l : Loaded) (frames : ℕ) (programs : List ProgramFile) (console : Console) (clock : ℕ) (first : HoldsFirst k.table) (stopped : k.current ≡ None)
    (state : state_of k h ≡ record (first_state frames programs l) { console = console; clock = clock }) where
  turns-first : turns_of k None ≡ first_turns
  unfolding turns_of
  turns-first =
      let slots = only-slot k.table first in
      let sleepers = no-sleepers k.table first NPROC in
      let current = ap (option_map (λ (_ : ℕ). pid_now k)) stopped in
      λ t. record { slots = slots t; sleepers = sleepers t; last = first.last t; current = current t; halted = None }

  pub first-world : world_of k h None ≡ record { state = record (first_state frames programs l) { console = console; clock = clock }; turns = first_turns }
  first-world = λ t. record { state = state t; turns = turns-first t }

  nobody-waits : NoReadySleeper (world_of k h None)
  nobody-waits p v asleep seen =
      let no : true ≡ false = sym asleep ∙ ap (λ (w : World). contains w.turns.sleepers p) first-world ∙ contains-empty nat_cmp p in
      let bad : ⊥ = cc in absurd bad

  pub first-whole : IsSound k h → k.files ≡ none_open → price l.image + 1 ≤ frames → length k.memories.ram ≡ frames → IsWithinLimits console → IsWhole k h
  first-whole sound opened fits long within = record {
    sound = sound;
    well = subst (λ n. WellFormed n (state_of k h)) (sym long)
        (subst (WellFormed frames) (sym state) (well.outside frames (first_state frames programs l) clock console (state_well frames programs l fits) within));
    files = subst files.IsTable (sym opened) none-open-table;
    counted = subst (λ fs. AreCounted fs k.table) (sym opened) (none-counted k.table first.closed);
    channels = λ slot p m channel held is asleep. absurd (none-some channel (sym (all-awake k.table first slot p held) ∙ asleep));
    awake = λ slot p runs held. all-awake k.table first slot p held;
    unready = nobody-waits;
    buffers = changed-buffers (record (state_of k h) { processes = empty }) (state_of k h) 1 (first_process l) (ap (λ (s : State). s.processes) state)
        (no-call-keeps None l.image refl) (λ p m lives. absurd (none-some m (sym (ap live_part (get-empty nat_cmp p)) ∙ lives)));
  }

-- ---- what the start leads to

module _ {k k' : Kernel} {h h' : Hart} {l : Loaded} (begins : Begins k h k' h' l) where
  first-there : HoldsFirst k'.table
  first-there = subst HoldsFirst (sym begins.table) holds-first

  pub begun-whole : HasNoProcess k → IsWithinLimits k.console → price l.image + 1 ≤ free_of k.memories → IsWhole k' h'
  begun-whole nobody within fits = first-whole k' h' l (free_of k.memories)
      (map named_file k.programs.items) k.console k.clock first-there begins.current begins.state begins.sound begins.files fits
      (begins.frames ∙ sym nobody.free) within

  pub begun-world : price l.image + 1 ≤ free_of k.memories → init_loaded (state_of k h) ≡ Ok l
      → (m : Loaded) × (init_loaded (state_of k h) ≡ Ok m) × (price m.image + 1 ≤ (state_of k h).free) × (world_of k' h' None ≡ started_world m (state_of k h))
  unfolding state_of
  begun-world fits is = (l, is, fits, first-world k' h' l (free_of k.memories) (map named_file k.programs.items) k.console k.clock first-there begins.current begins.state)
