-- A descriptor of the process that runs is taken out of the table, and the memories and the open files change with it.
use Rattle.kcall_core.proofs.Prelude.{ℕ, ◌<◌, ◌∙◌, ◌≡◌, ◌≢◌, Alive, ap, arith, Bool, by_pid, by_status, changed_state, cond, descriptor_map, descriptors_at, each_of, entry_at, entry_of, eq-eqb}
use Rattle.kcall_core.proofs.Prelude.{eqb_tells, false, free_of, gathered, get, get_or, get_or-set_other, get_or-set_same, get_without, Hart, held_at, inl, inr, insert, is_this, IsCurrent, IsSome}
use Rattle.kcall_core.proofs.Prelude.{IsSound, IsTable, Kernel, length, length-set, List, live_now, live_of, ltb, map, Memories, named_by, named_file, NOFILE, None, none-some, none_named, NPROC}
use Rattle.kcall_core.proofs.Prelude.{open_file_at, OPEN_FILES, Option, or_nobody, or_nothing, or_zero, pid_now, pipes_of, place_at, place_now, Process, process_of, refl, remove, RunsIn, same_pages}
use Rattle.kcall_core.proofs.Prelude.{set, slot_now, Slots, Some, state_of, subst, sym, true, with_closed, with_named}
use Rattle.kcall_core.proofs.files.Namings.{named-seen}
use Rattle.kcall_core.proofs.table.States.{Alone, slot-state, slot-inside, not-this}
use Rattle.kcall_core.specs.Memories as memories

-- the memories of the processes are the same, and whoever ran runs on
pub record Shares (old new : Memories) : Type 0 where
  pub sound : memories.AreSound new
  pub each : each_of new ≡ each_of old
  pub runs : (slot : ℕ) (hart : Hart) → RunsIn old slot hart → RunsIn new slot hart

-- a descriptor of a list that names nothing any more
pub map-closed : (ds : List (Option ℕ)) (d : ℕ) → d < length ds → descriptor_map (with_named d None ds) ≡ remove (descriptor_map ds) d
map-closed ds d lt = same_pages (descriptor_map (with_named d None ds)) (remove (descriptor_map ds) d) (λ e. elim (eqb_tells e d) [
  | inl h ↦
      named-seen (with_named d None ds) e
      ∙ ap (λ o. cond (ltb e NOFILE) o None) (ap (named_by (with_named d None ds)) h.1 ∙ get_or-set_same ds d None None lt)
      ∙ both (ltb e NOFILE)
      ∙ sym (get_without (descriptor_map ds) d e ∙ ap (λ b. cond b None (get (descriptor_map ds) e)) h.0)
  | inr h ↦
      named-seen (with_named d None ds) e
      ∙ ap (λ o. cond (ltb e NOFILE) o None) (get_or-set_other ds d e None None h.1)
      ∙ sym (get_without (descriptor_map ds) d e ∙ ap (λ b. cond b None (get (descriptor_map ds) e)) h.0 ∙ named-seen ds e)
])
  where
    both : (b : Bool) → cond {A = Option ℕ} b None None ≡ None
    both true = refl
    both false = refl

module _ (k k1 : Kernel) (h : Hart) (slot d : ℕ) (sound : IsSound k h) (is : k.current ≡ Some slot) (current : k1.current ≡ k.current)
    (shares : Shares k.memories k1.memories) (long : d < length (descriptors_at k.table slot))
    (table : k1.table ≡ record k.table { descriptors = set k.table.descriptors slot (with_named d None (descriptors_at k.table slot)) }) where
  now : IsCurrent k h slot
  now = sound.current slot is

  inside : slot < 64
  inside = slot-inside k h sound slot now.process now.is

  pub taken-place : (j : ℕ) → place_at k1.table j ≡ place_at k.table j
  taken-place j = ap (λ (t : Slots). place_at t j) table

  taken-here : descriptors_at k1.table slot ≡ with_named d None (descriptors_at k.table slot)
  taken-here =
      ap (λ (t : Slots). descriptors_at t slot) table
      ∙ get_or-set_same k.table.descriptors slot (with_named d None (descriptors_at k.table slot)) none_named (omega (arith, inside, sound.table.descriptors))

  taken-other : (j : ℕ) → j ≢ slot → descriptors_at k1.table j ≡ descriptors_at k.table j
  taken-other j ne = ap (λ (t : Slots). descriptors_at t j) table ∙ get_or-set_other k.table.descriptors slot j (with_named d None (descriptors_at k.table slot)) none_named ne

  same-memory : (j : ℕ) → get_or (each_of k1.memories) j None ≡ get_or (each_of k.memories) j None
  same-memory j = ap (λ l. get_or l j None) shares.each

  taken-table : IsTable k1.table
  taken-table = subst IsTable (sym table) (record {
    places = sound.table.places;
    descriptors = length-set k.table.descriptors slot (with_named d None (descriptors_at k.table slot)) ∙ sound.table.descriptors;
    last = sound.table.last;
    first = sound.table.first;
    next = sound.table.next;
    pids = sound.table.pids;
  })

  pub taken-sound : IsSound k1 h
  taken-sound = record {
    memories = shares.sound;
    table = taken-table;
    lives = λ j p at live. subst (λ o. IsSome o) (sym (same-memory j)) (sound.lives j p (sym (taken-place j) ∙ at) live);
    ended = λ j p status at over. same-memory j ∙ sound.ended j p status (sym (taken-place j) ∙ at) over;
    vacant = λ j at. same-memory j ∙ sound.vacant j (sym (taken-place j) ∙ at);
    current = λ j at.
        let c = sound.current j (sym current ∙ at) in
        record { process = c.process; is = taken-place j ∙ c.is; live = c.live; runs = shares.runs j h c.runs };
    idle = λ at. absurd (none-some slot (sym at ∙ current ∙ is));
  }

  taken-alone : Alone k k1 slot
  taken-alone = record {
    places = λ j ne. taken-place j;
    files = taken-other;
    each = λ j ne. same-memory j;
    ran = λ j ne. not-this slot j k.current is ne;
    runs = λ j ne. not-this slot j k1.current (current ∙ is) ne;
  }

  slot-is : slot ≡ slot_now k
  slot-is = sym (ap or_zero is)

  taken-live : live_of now.process (descriptors_at k1.table slot) (held_at (each_of k1.memories) slot) h.regs ≡ with_closed d (live_now k h)
  taken-live =
      let held : held_at (each_of k1.memories) slot ≡ held_at (each_of k.memories) (slot_now k) = ap or_nothing (same-memory slot) ∙ ap (held_at (each_of k.memories)) slot-is in
      let place : now.process ≡ place_now k = ap or_nobody (sym now.is ∙ ap (place_at k.table) slot-is) in
      let ds : descriptor_map (descriptors_at k1.table slot) ≡ remove (descriptor_map (descriptors_at k.table (slot_now k))) d =
      ap descriptor_map taken-here ∙ map-closed (descriptors_at k.table slot) d long ∙ ap (λ n. remove (descriptor_map (descriptors_at k.table n)) d) slot-is in
      λ t. record (live_of (place t) (descriptors_at k.table (slot_now k)) (held t) h.regs) { descriptors = ds t }

  taken-entry : entry_at k1 h slot ≡ Some (now.process.pid, Alive (with_closed d (live_now k h)))
  taken-entry =
      let p = now.process in
      let ds = descriptors_at k1.table slot in
      let held = held_at (each_of k1.memories) slot in
      ap (entry_of k1 h slot) (taken-place slot ∙ now.is)
      ∙ ap (λ b. Some (p.pid, process_of p ds held (cond b h.regs held.saved))) (ap (is_this slot) (current ∙ is) ∙ eq-eqb slot slot refl)
      ∙ ap (λ o. Some (p.pid, by_status p.parent (live_of p ds held h.regs) o)) now.live
      ∙ ap (λ l. Some (p.pid, Alive l)) taken-live

  pub taken-processes : by_pid (entry_at k1 h) NPROC ≡ insert (by_pid (entry_at k h) NPROC) (pid_now k) (Alive (with_closed d (live_now k h)))
  taken-processes =
      let place : now.process ≡ place_now k = ap or_nobody (sym now.is ∙ ap (place_at k.table) slot-is) in
      slot-state k k1 h h slot now.process (Alive (with_closed d (live_now k h))) sound now.is taken-alone taken-entry
      ∙ ap (λ (q : Process). insert (by_pid (entry_at k h) NPROC) q.pid (Alive (with_closed d (live_now k h)))) place

  pub taken-state : k1.console ≡ k.console → k1.programs.items ≡ k.programs.items → k1.clock ≡ k.clock
      → state_of k1 h ≡ changed_state (pid_now k) (with_closed d (live_now k h)) (state_of k1 h).files (pipes_of k1.memories) (state_of k h).console (free_of k1.memories) (state_of k h)
  unfolding state_of
  taken-state console programs clock = λ t. record {
    processes = taken-processes t;
    files = gathered (open_file_at k1.files) OPEN_FILES;
    pipes = pipes_of k1.memories;
    console = console t;
    clock = clock t;
    next_pid = (table t).next;
    free = free_of k1.memories;
    programs = map named_file (programs t);
  }
