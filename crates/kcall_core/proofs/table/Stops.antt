-- The process that runs stops running, a process begins to run, and a process ends.
use Rattle.kcall_core.proofs.Prelude.{[], ℕ, ℤ, ◌+◌, ◌<◌, ◌∙◌, ◌∷◌, ◌≡◌, ◌≢◌, ◌⊎◌, ap, arith, by_pid, cases_eq, changed_at, cond, descriptors_at, each_of, end_process, ended, entry_at, entry_of}
use Rattle.kcall_core.proofs.Prelude.{eq-eqb, false≢true, fits_hart, FitsHart, free_of, gathered, get_or, get_or-set_other, get_or-set_same, give_frames, Hart, HasMemory, Held, held_at, held_cost}
use Rattle.kcall_core.proofs.Prelude.{inl, inr, insert, is_none, is_this, IsCurrent, IsIdle, IsLiveAt, IsParked, IsSome, IsSound, IsTable, IsTrue, Kernel, length, List, live_now, map, Memories}
use Rattle.kcall_core.proofs.Prelude.{named_file, None, none-some, nothing_kept, NPROC, open_file_at, OPEN_FILES, Option, option_map, or_nobody, or_nothing, or_zero, pid_now, pipes_of, place_at}
use Rattle.kcall_core.proofs.Prelude.{place_is_live, place_now, price, Process, process_of, refl, Registers, regs_at, set, slot_now, SlotChanges, Slots, Some, state_of, status_of, subst, suc, sym}
use Rattle.kcall_core.proofs.Prelude.{table_at, with_saved, zero, Zombie}
use Rattle.kcall_core.proofs.table.ByPid.{by_pid-same}
use Rattle.kcall_core.proofs.memory.Changes.{some-inside}
use Rattle.kcall_core.proofs.table.States.{Alone, alone-entries, slot-inside, slot-state, not-this, not-over}

-- all of the kernel but the table, the memories and who runs
pub record Rest (k k' : Kernel) : Type 0 where
  pub files : k'.files ≡ k.files
  pub console : k'.console ≡ k.console
  pub programs : k'.programs.items ≡ k.programs.items
  pub clock : k'.clock ≡ k.clock

-- the memory in slot i, which the current process has
module _ {k : Kernel} {h : Hart} (i : ℕ) (sound : IsSound k h) (is : k.current ≡ Some i) where
  now : IsCurrent k h i
  now = sound.current i is

  pub now-has : HasMemory (each_of k.memories) i
  now-has = sound.lives i now.process now.is now.live

  pub now-inside : i < length (each_of k.memories)
  now-inside = some-inside (each_of k.memories) i now-has

  pub now-slot : i ≡ slot_now k
  now-slot = sym (ap or_zero is)

-- ---- suspended

cost-saved : (o : Option Held) (regs : Registers) → IsSome o → held_cost (Some (with_saved regs (or_nothing o))) ≡ held_cost o
cost-saved None regs some = absurd (false≢true some)
cost-saved (Some held) regs some = refl

pub suspended-state : (k k' : Kernel) (h h' : Hart) (i : ℕ) → IsSound k h → k.current ≡ Some i
    → SlotChanges k.memories k'.memories i (Some (with_saved h.regs (held_at (each_of k.memories) i))) → k'.table ≡ k.table → k'.current ≡ None
    → Rest k k' → state_of k' h' ≡ state_of k h
unfolding state_of
suspended-state k k' h h' i sound is changes table stopped rest =
    let held = held_at (each_of k.memories) i in
    let now = sound.current i is in
    let p = now.process in
    let here : held_at (each_of k'.memories) i ≡ with_saved h.regs held =
    ap or_nothing (ap (λ l. get_or l i None) changes.each ∙ get_or-set_same (each_of k.memories) i (Some (with_saved h.regs held)) None (now-inside i sound is)) in
    let alone : Alone k k' i = record {
      places = λ j ne. ap (λ (t : Slots). place_at t j) table;
      files = λ j ne. ap (λ (t : Slots). descriptors_at t j) table;
      each = λ j ne. ap (λ l. get_or l j None) changes.each ∙ get_or-set_other (each_of k.memories) i j (Some (with_saved h.regs held)) None ne;
      ran = λ j ne. not-this i j k.current is ne;
      runs = λ j ne. ap (is_this j) stopped;
    } in
    let before : entry_at k h i ≡ Some (p.pid, process_of p (descriptors_at k.table i) held h.regs) =
    ap (entry_of k h i) now.is ∙ ap (λ b. Some (p.pid, process_of p (descriptors_at k.table i) held (cond b h.regs held.saved))) (ap (is_this i) is ∙ eq-eqb i i refl) in
    let after : entry_at k' h' i ≡ Some (p.pid, process_of p (descriptors_at k.table i) held h.regs) =
    ap (λ (t : Slots). entry_of k' h' i (place_at t i)) table ∙ ap (entry_of k' h' i) now.is
    ∙ ap (λ (t : Slots). Some (p.pid, process_of p (descriptors_at t i) (held_at (each_of k'.memories) i) (regs_at k' h' i))) table
    ∙ ap (λ b. Some (p.pid, process_of p (descriptors_at k.table i) (held_at (each_of k'.memories) i) (cond b h'.regs (held_at (each_of k'.memories) i).saved))) (ap (is_this i) stopped)
    ∙ ap (λ (x : Held). Some (p.pid, process_of p (descriptors_at k.table i) x x.saved)) here in
    let processes : by_pid (entry_at k' h') NPROC ≡ by_pid (entry_at k h) NPROC =
    by_pid-same (entry_at k h) (entry_at k' h') NPROC (λ j. elim (cases_eq j i) [
      | inl e ↦ ap (entry_at k' h') e ∙ after ∙ sym before ∙ sym (ap (entry_at k h) e)
      | inr ne ↦ alone-entries k k' h h' i alone j ne
    ]) in
    let free : free_of k'.memories ≡ free_of k.memories = omega (arith, changes.free, cost-saved (get_or (each_of k.memories) i None) h.regs (now-has i sound is)) in
    λ t. record {
      processes = processes t;
      files = gathered (open_file_at (rest.files t)) OPEN_FILES;
      pipes = changes.pipes t;
      console = rest.console t;
      clock = rest.clock t;
      next_pid = (table t).next;
      free = free t;
      programs = map named_file (rest.programs t);
    }

pub suspended-sound : (k k' : Kernel) (h h' : Hart) (i : ℕ) (x : Held) → IsSound k h → k.current ≡ Some i
    → SlotChanges k.memories k'.memories i (Some x) → k'.table ≡ k.table → k'.current ≡ None → IsIdle h' ⊎ IsParked k'.memories h' → IsSound k' h'
suspended-sound k k' h h' i x sound is changes table stopped idle =
    let now = sound.current i is in
    let here : get_or (each_of k'.memories) i None ≡ Some x = ap (λ l. get_or l i None) changes.each ∙ get_or-set_same (each_of k.memories) i (Some x) None (now-inside i sound is) in
    let other : (j : ℕ) → j ≢ i → get_or (each_of k'.memories) j None ≡ get_or (each_of k.memories) j None =
    λ j ne. ap (λ l. get_or l j None) changes.each ∙ get_or-set_other (each_of k.memories) i j (Some x) None ne in
    let place : (j : ℕ) → place_at k'.table j ≡ place_at k.table j = λ j. ap (λ (t : Slots). place_at t j) table in
    record {
      memories = changes.sound;
      table = subst IsTable (sym table) sound.table;
      lives = λ j p at live. elim (cases_eq j i) [
        | inl e ↦ subst (HasMemory (each_of k'.memories)) (sym e) (subst (λ o. IsSome o) (sym here) refl)
        | inr ne ↦ subst (λ o. IsSome o) (sym (other j ne)) (sound.lives j p (sym (place j) ∙ at) live)
      ];
      ended = λ j p status at over. elim (cases_eq j i) [
        | inl e ↦ absurd (not-over now.process p status (sym (sym at ∙ place j ∙ ap (place_at k.table) e ∙ now.is)) now.live over)
        | inr ne ↦ other j ne ∙ sound.ended j p status (sym (place j) ∙ at) over
      ];
      vacant = λ j at. elim (cases_eq j i) [
        | inl e ↦ absurd (none-some now.process (sym at ∙ place j ∙ ap (place_at k.table) e ∙ now.is))
        | inr ne ↦ other j ne ∙ sound.vacant j (sym (place j) ∙ at)
      ];
      current = λ j at. absurd (none-some j (sym stopped ∙ at));
      idle = λ e. idle;
    }

-- if nobody runs, another hart does for the kernel as well, as long as it is idle
pub left-sound : (k : Kernel) (h h' : Hart) → IsSound k h → k.current ≡ None → IsIdle h' → IsSound k h'
left-sound k h h' sound stopped idle = record {
  memories = sound.memories;
  table = sound.table;
  lives = sound.lives;
  ended = sound.ended;
  vacant = sound.vacant;
  current = λ j at. absurd (none-some j (sym stopped ∙ at));
  idle = λ e. inl idle;
}

pub left-state : (k : Kernel) (h h' : Hart) → k.current ≡ None → state_of k h' ≡ state_of k h
unfolding state_of
left-state k h h' stopped = λ t. record (state_of k h) { processes = by_pid-same (entry_at k h) (entry_at k h') NPROC (λ j. same j (place_at k.table j)) t }
  where
    same : (j : ℕ) (o : Option Process) → entry_of k h' j o ≡ entry_of k h j o
    same j None = refl
    same j (Some p) =
        let files = descriptors_at k.table j in
        let held = held_at (each_of k.memories) j in
        ap (λ b. Some (p.pid, process_of p files held (cond b h'.regs held.saved))) (ap (is_this j) stopped)
        ∙ sym (ap (λ b. Some (p.pid, process_of p files held (cond b h.regs held.saved))) (ap (is_this j) stopped))

-- ---- entered

-- what an idle or a parked hart keeps is true of the tables that it uses
pub rests-fit : (m : Memories) (h : Hart) → IsIdle h ⊎ IsParked m h → FitsHart m.ram h.root h.cache
rests-fit m h (inl idle) = subst (λ o. FitsHart m.ram o h.cache) (sym idle.0) idle.1
rests-fit m h (inr (slot, runs)) = fits_hart m.ram h.root runs.memory.space.root h.cache runs.root runs.fits

pub entered-state : (k k' : Kernel) (h h' : Hart) (i : ℕ) (p : Process) → IsSound k h → k.current ≡ None → place_at k.table i ≡ Some p
    → h'.regs ≡ (held_at (each_of k.memories) i).saved → k'.memories ≡ k.memories → k'.table ≡ k.table → k'.current ≡ Some i → Rest k k'
    → state_of k' h' ≡ state_of k h
unfolding state_of
entered-state k k' h h' i p sound stopped is regs memories table current rest =
    let held = held_at (each_of k.memories) i in
    let alone : Alone k k' i = record {
      places = λ j ne. ap (λ (t : Slots). place_at t j) table;
      files = λ j ne. ap (λ (t : Slots). descriptors_at t j) table;
      each = λ j ne. ap (λ m. get_or (each_of m) j None) memories;
      ran = λ j ne. ap (is_this j) stopped;
      runs = λ j ne. not-this i j k'.current current ne;
    } in
    let before : entry_at k h i ≡ Some (p.pid, process_of p (descriptors_at k.table i) held held.saved) =
    ap (entry_of k h i) is ∙ ap (λ b. Some (p.pid, process_of p (descriptors_at k.table i) held (cond b h.regs held.saved))) (ap (is_this i) stopped) in
    let after : entry_at k' h' i ≡ Some (p.pid, process_of p (descriptors_at k.table i) held held.saved) =
    ap (λ (t : Slots). entry_of k' h' i (place_at t i)) table ∙ ap (entry_of k' h' i) is
    ∙ ap (λ (t : Slots). Some (p.pid, process_of p (descriptors_at t i) (held_at (each_of k'.memories) i) (regs_at k' h' i))) table
    ∙ ap (λ b. Some (
      p.pid,
      process_of p (descriptors_at k.table i) (held_at (each_of k'.memories) i)
          (cond b h'.regs (held_at (each_of k'.memories) i).saved),
    )) (ap (is_this i) current ∙ eq-eqb i i refl)
    ∙ (λ t. Some (p.pid, process_of p (descriptors_at k.table i) (held_at (each_of (memories t)) i) (regs t))) in
    let processes : by_pid (entry_at k' h') NPROC ≡ by_pid (entry_at k h) NPROC =
    by_pid-same (entry_at k h) (entry_at k' h') NPROC (λ j. elim (cases_eq j i) [
      | inl e ↦ ap (entry_at k' h') e ∙ after ∙ sym before ∙ sym (ap (entry_at k h) e)
      | inr ne ↦ alone-entries k k' h h' i alone j ne
    ]) in
    λ t. record {
      processes = processes t;
      files = gathered (open_file_at (rest.files t)) OPEN_FILES;
      pipes = pipes_of (memories t);
      console = rest.console t;
      clock = rest.clock t;
      next_pid = (table t).next;
      free = free_of (memories t);
      programs = map named_file (rest.programs t);
    }

-- ---- ended

pub read-some : {X : Type 0} (xs : List (Option X)) (i : ℕ) (x : X) → get_or xs i None ≡ Some x → get_or xs i (Some x) ≡ Some x
read-some [] i x e = refl
read-some (y ∷ ys) zero x e = e
read-some (y ∷ ys) (suc i) x e = read-some ys i x e

pub cost-held : (o : Option Held) → IsSome o → held_cost o ≡ price (or_nothing o).image + 1
cost-held None some = absurd (false≢true some)
cost-held (Some held) some = refl

module _ {k : Kernel} (k' : Kernel) {h : Hart} (h' : Hart) {i : ℕ} (status : ℤ) (sound : IsSound k h) (is : k.current ≡ Some i)
    (changes : SlotChanges k.memories k'.memories i None) (table : k'.table ≡ changed_at i (ended status) k.table) (stopped : k'.current ≡ None) where
  gone-place : place_at k'.table i ≡ Some (ended status (sound.current i is).process)
  gone-place =
      let now = sound.current i is in
      ap (λ (t : Slots). place_at t i) table ∙ get_or-set_same k.table.places i (option_map (ended status) (place_at k.table i)) None
      (omega (arith, slot-inside k h sound i now.process now.is, sound.table.places)) ∙ ap (option_map (ended status)) now.is

  gone-other : (j : ℕ) → j ≢ i → place_at k'.table j ≡ place_at k.table j
  gone-other j ne = ap (λ (t : Slots). place_at t j) table ∙ get_or-set_other k.table.places i j (option_map (ended status) (place_at k.table i)) None ne

  gone-here : get_or (each_of k'.memories) i None ≡ None
  gone-here = ap (λ l. get_or l i None) changes.each ∙ get_or-set_same (each_of k.memories) i None None (now-inside i sound is)

  gone-memory : (j : ℕ) → j ≢ i → get_or (each_of k'.memories) j None ≡ get_or (each_of k.memories) j None
  gone-memory j ne = ap (λ l. get_or l j None) changes.each ∙ get_or-set_other (each_of k.memories) i j None None ne

  gone-table : IsTable k'.table
  gone-table =
      let now = sound.current i is in
      let p = now.process in
      let same : record k.table { places = set k.table.places i (Some (ended status p)) } ≡ changed_at i (ended status) k.table =
      ap (λ o. record k.table { places = set k.table.places i (option_map (ended status) o) }) (sym now.is) in
      subst IsTable (same ∙ sym table) (table_at k.table i (Some p) p (ended status p) sound.table (slot-inside k h sound i p now.is) (sym (read-some k.table.places i p now.is)) refl refl)

  pub ended-sound : h'.root ≡ None → h'.cache ≡ nothing_kept → IsSound k' h'
  ended-sound root cache = record {
    memories = changes.sound;
    table = gone-table;
    lives = λ j p at live. elim (cases_eq j i) [
      | inl e ↦ absurd (over-not p (sym (ap (place_at k'.table) e ∙ gone-place) ∙ at) live)
      | inr ne ↦ subst (λ o. IsSome o) (sym (gone-memory j ne)) (sound.lives j p (sym (gone-other j ne) ∙ at) live)
    ];
    ended = λ j p over at status_is. elim (cases_eq j i) [
      | inl e ↦ ap (λ n. get_or (each_of k'.memories) n None) e ∙ gone-here
      | inr ne ↦ gone-memory j ne ∙ sound.ended j p over (sym (gone-other j ne) ∙ at) status_is
    ];
    vacant = λ j at. elim (cases_eq j i) [
      | inl e ↦ absurd (none-some (ended status (sound.current i is).process) (sym at ∙ ap (place_at k'.table) e ∙ gone-place))
      | inr ne ↦ gone-memory j ne ∙ sound.vacant j (sym (gone-other j ne) ∙ at)
    ];
    current = λ j at. absurd (none-some j (sym stopped ∙ at));
    idle = λ e. inl (root, cache);
  }
    where
      over-not : (p : Process) → Some (ended status (sound.current i is).process) ≡ Some p → status_of p ≡ None → ⊥
      over-not p same live = let e : ended status (sound.current i is).process ≡ p = cc in none-some status (sym live ∙ sym (ap status_of e))

  pub ended-state : Rest k k' → state_of k' h' ≡ give_frames (price (live_now k h).image + 1) (end_process (pid_now k) (live_now k h).parent status (state_of k h))
  unfolding state_of
  ended-state rest =
      let now = sound.current i is in
      let p = now.process in
      let alone : Alone k k' i = record {
        places = gone-other;
        files = λ j ne. ap (λ (t : Slots). descriptors_at t j) table;
        each = gone-memory;
        ran = λ j ne. not-this i j k.current is ne;
        runs = λ j ne. ap (is_this j) stopped;
      } in
      let here : entry_at k' h' i ≡ Some (p.pid, Zombie p.parent status) = ap (entry_of k' h' i) gone-place in
      let slot : i ≡ slot_now k = now-slot i sound is in
      let place : p ≡ place_now k = ap or_nobody (sym now.is ∙ ap (place_at k.table) slot) in
      let processes : by_pid (entry_at k' h') NPROC ≡ insert (by_pid (entry_at k h) NPROC) (pid_now k) (Zombie (place_now k).parent status) =
      slot-state k k' h h' i p (Zombie p.parent status) sound now.is alone here ∙ ap (λ (q : Process). insert (by_pid (entry_at k h) NPROC) q.pid (Zombie q.parent status)) place in
      let free : free_of k'.memories ≡ free_of k.memories + (price (held_at (each_of k.memories) (slot_now k)).image + 1) =
      omega (arith, changes.free, cost-held (get_or (each_of k.memories) i None) (now-has i sound is), ap (λ n. price (held_at (each_of k.memories) n).image) slot) in
      λ t. record {
        processes = processes t;
        files = gathered (open_file_at (rest.files t)) OPEN_FILES;
        pipes = changes.pipes t;
        console = rest.console t;
        clock = rest.clock t;
        next_pid = (table t).next;
        free = free t;
        programs = map named_file (rest.programs t);
      }

-- a live process of the table, as the table tests it
pub live-place : (k : Kernel) (i : ℕ) (p : Process) → place_at k.table i ≡ Some p → status_of p ≡ None → IsLiveAt k.table i
live-place k i p is live = subst (λ o. IsTrue (place_is_live o)) (sym is) (by-status (status_of p) live)
  where
    by-status : (o : Option ℤ) → o ≡ None → IsTrue (is_none o)
    by-status None e = refl
    by-status (Some status) e = absurd (none-some status (sym e))
