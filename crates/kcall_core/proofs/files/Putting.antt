-- A free descriptor of the process that runs names an open file, and the memories and the open files change with it.
use Rattle.kcall_core.proofs.Prelude.{ℕ, ◌<◌, ◌∙◌, ◌≡◌, ◌≢◌, Alive, ap, arith, by_pid, by_status, changed_state, cond, descriptor_map, descriptors_at, each_of, entry_at, entry_of, eq-eqb, eqb_tells}
use Rattle.kcall_core.proofs.Prelude.{free_of, gathered, get, get_at, get_or, get_or-set_other, get_or-set_same, Hart, held_at, inl, inr, insert, is_this, IsCurrent, IsSome, IsSound, IsTable, Kernel}
use Rattle.kcall_core.proofs.Prelude.{length, length-set, List, live_now, live_of, lt-ltb, ltb, map, named_by, named_file, NOFILE, None, none-some, none_named, NPROC, open_file_at, OPEN_FILES, Option}
use Rattle.kcall_core.proofs.Prelude.{or_nobody, or_nothing, or_zero, pid_now, pipes_of, place_at, place_now, Process, process_of, refl, same_pages, set, slot_now, Slots, Some, state_of, subst, sym}
use Rattle.kcall_core.proofs.Prelude.{with_named}
use Rattle.kcall_core.proofs.files.Namings.{named-seen}
use Rattle.kcall_core.proofs.files.Taking.{Shares}
use Rattle.kcall_core.proofs.table.States.{Alone, slot-state, slot-inside, not-this}
use Rattle.kernel_spec.specs.steps.Updates as update

-- a descriptor of a list that names an open file now
pub map-named : (ds : List (Option ℕ)) (d g : ℕ) → d < length ds → d < NOFILE → descriptor_map (with_named d (Some g) ds) ≡ insert (descriptor_map ds) d g
map-named ds d g lt below = same_pages (descriptor_map (with_named d (Some g) ds)) (insert (descriptor_map ds) d g) (λ e. elim (eqb_tells e d) [
  | inl h ↦
      named-seen (with_named d (Some g) ds) e
      ∙ ap (λ o. cond (ltb e NOFILE) o None) (ap (named_by (with_named d (Some g) ds)) h.1 ∙ get_or-set_same ds d (Some g) None lt)
      ∙ ap (λ b. cond b (Some g) None) (ap (λ n. ltb n NOFILE) h.1 ∙ lt-ltb d NOFILE below)
      ∙ sym (get_at (descriptor_map ds) d g e ∙ ap (λ b. cond b (Some g) (get (descriptor_map ds) e)) h.0)
  | inr h ↦
      named-seen (with_named d (Some g) ds) e
      ∙ ap (λ o. cond (ltb e NOFILE) o None) (get_or-set_other ds d e (Some g) None h.1)
      ∙ sym (get_at (descriptor_map ds) d g e ∙ ap (λ b. cond b (Some g) (get (descriptor_map ds) e)) h.0 ∙ named-seen ds e)
])

module _ (k k1 : Kernel) (h : Hart) (slot d g : ℕ) (sound : IsSound k h) (is : k.current ≡ Some slot) (current : k1.current ≡ k.current)
    (shares : Shares k.memories k1.memories) (long : d < length (descriptors_at k.table slot)) (below : d < NOFILE)
    (table : k1.table ≡ record k.table { descriptors = set k.table.descriptors slot (with_named d (Some g) (descriptors_at k.table slot)) }) where
  now : IsCurrent k h slot
  now = sound.current slot is

  inside : slot < 64
  inside = slot-inside k h sound slot now.process now.is

  pub put-place : (j : ℕ) → place_at k1.table j ≡ place_at k.table j
  put-place j = ap (λ (t : Slots). place_at t j) table

  put-here : descriptors_at k1.table slot ≡ with_named d (Some g) (descriptors_at k.table slot)
  put-here =
      ap (λ (t : Slots). descriptors_at t slot) table
      ∙ get_or-set_same k.table.descriptors slot (with_named d (Some g) (descriptors_at k.table slot)) none_named (omega (arith, inside, sound.table.descriptors))

  put-other : (j : ℕ) → j ≢ slot → descriptors_at k1.table j ≡ descriptors_at k.table j
  put-other j ne = ap (λ (t : Slots). descriptors_at t j) table ∙ get_or-set_other k.table.descriptors slot j (with_named d (Some g) (descriptors_at k.table slot)) none_named ne

  same-memory : (j : ℕ) → get_or (each_of k1.memories) j None ≡ get_or (each_of k.memories) j None
  same-memory j = ap (λ l. get_or l j None) shares.each

  put-table : IsTable k1.table
  put-table = subst IsTable (sym table) (record {
    places = sound.table.places;
    descriptors = length-set k.table.descriptors slot (with_named d (Some g) (descriptors_at k.table slot)) ∙ sound.table.descriptors;
    last = sound.table.last;
    first = sound.table.first;
    next = sound.table.next;
    pids = sound.table.pids;
  })

  pub put-sound : IsSound k1 h
  put-sound = record {
    memories = shares.sound;
    table = put-table;
    lives = λ j p at live. subst (λ o. IsSome o) (sym (same-memory j)) (sound.lives j p (sym (put-place j) ∙ at) live);
    ended = λ j p status at over. same-memory j ∙ sound.ended j p status (sym (put-place j) ∙ at) over;
    vacant = λ j at. same-memory j ∙ sound.vacant j (sym (put-place j) ∙ at);
    current = λ j at.
        let c = sound.current j (sym current ∙ at) in
        record { process = c.process; is = put-place j ∙ c.is; live = c.live; runs = shares.runs j h c.runs };
    idle = λ at. absurd (none-some slot (sym at ∙ current ∙ is));
  }

  put-alone : Alone k k1 slot
  put-alone = record {
    places = λ j ne. put-place j;
    files = put-other;
    each = λ j ne. same-memory j;
    ran = λ j ne. not-this slot j k.current is ne;
    runs = λ j ne. not-this slot j k1.current (current ∙ is) ne;
  }

  slot-is : slot ≡ slot_now k
  slot-is = sym (ap or_zero is)

  put-live : live_of now.process (descriptors_at k1.table slot) (held_at (each_of k1.memories) slot) h.regs ≡ update.with_named d g (live_now k h)
  put-live =
      let held : held_at (each_of k1.memories) slot ≡ held_at (each_of k.memories) (slot_now k) = ap or_nothing (same-memory slot) ∙ ap (held_at (each_of k.memories)) slot-is in
      let place : now.process ≡ place_now k = ap or_nobody (sym now.is ∙ ap (place_at k.table) slot-is) in
      let ds : descriptor_map (descriptors_at k1.table slot) ≡ insert (descriptor_map (descriptors_at k.table (slot_now k))) d g =
      ap descriptor_map put-here ∙ map-named (descriptors_at k.table slot) d g long below ∙ ap (λ n. insert (descriptor_map (descriptors_at k.table n)) d g) slot-is in
      λ t. record (live_of (place t) (descriptors_at k.table (slot_now k)) (held t) h.regs) { descriptors = ds t }

  slot-now : slot_now k1 ≡ slot
  slot-now = ap or_zero (current ∙ is)

  place-now : place_now k1 ≡ now.process
  place-now = ap (λ n. or_nobody (place_at k1.table n)) slot-now ∙ ap or_nobody (put-place slot ∙ now.is)

  -- the process that runs is the same, and has the descriptor
  pub put-pid : pid_now k1 ≡ pid_now k
  put-pid = ap (λ (q : Process). q.pid) (place-now ∙ or-same ∙ ap (λ n. or_nobody (place_at k.table n)) slot-is)
    where
      or-same : now.process ≡ or_nobody (place_at k.table slot)
      or-same = ap or_nobody (sym now.is)

  pub put-now : live_now k1 h ≡ update.with_named d g (live_now k h)
  put-now = (λ t. live_of (place-now t) (descriptors_at k1.table (slot-now t)) (held_at (each_of k1.memories) (slot-now t)) h.regs) ∙ put-live

  put-entry : entry_at k1 h slot ≡ Some (now.process.pid, Alive (update.with_named d g (live_now k h)))
  put-entry =
      let p = now.process in
      let ds = descriptors_at k1.table slot in
      let held = held_at (each_of k1.memories) slot in
      ap (entry_of k1 h slot) (put-place slot ∙ now.is)
      ∙ ap (λ b. Some (p.pid, process_of p ds held (cond b h.regs held.saved))) (ap (is_this slot) (current ∙ is) ∙ eq-eqb slot slot refl)
      ∙ ap (λ o. Some (p.pid, by_status p.parent (live_of p ds held h.regs) o)) now.live
      ∙ ap (λ l. Some (p.pid, Alive l)) put-live

  pub put-processes : by_pid (entry_at k1 h) NPROC ≡ insert (by_pid (entry_at k h) NPROC) (pid_now k) (Alive (update.with_named d g (live_now k h)))
  put-processes =
      let place : now.process ≡ place_now k = ap or_nobody (sym now.is ∙ ap (place_at k.table) slot-is) in
      slot-state k k1 h h slot now.process (Alive (update.with_named d g (live_now k h))) sound now.is put-alone put-entry
      ∙ ap (λ (q : Process). insert (by_pid (entry_at k h) NPROC) q.pid (Alive (update.with_named d g (live_now k h)))) place

  pub put-state : k1.console ≡ k.console → k1.programs.items ≡ k.programs.items → k1.clock ≡ k.clock
      → state_of k1 h ≡ changed_state (pid_now k) (update.with_named d g (live_now k h)) (state_of k1 h).files (pipes_of k1.memories) (state_of k h).console (free_of k1.memories) (state_of k h)
  unfolding state_of
  put-state console programs clock = λ t. record {
    processes = put-processes t;
    files = gathered (open_file_at k1.files) OPEN_FILES;
    pipes = pipes_of k1.memories;
    console = console t;
    clock = clock t;
    next_pid = (table t).next;
    free = free_of k1.memories;
    programs = map named_file (programs t);
  }
