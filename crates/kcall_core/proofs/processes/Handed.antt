-- The call fork: what its code leaves is what `ForkMakes` asks for, and where it can't have a child it is refused.
use Rattle.kcall_core.proofs.Prelude.{ℕ, ℤ, ◌+◌, ◌-◌, ◌<◌, ◌||◌, ◌∙◌, ◌≡◌, ◌≢◌, ◌⊎◌, Alive, ap, AreCounted, arith, Bool, by_pid, Call, cannot_fork, cases_eq, cases_lt, changed_at, cond}
use Rattle.kcall_core.proofs.Prelude.{descriptor_map, descriptors_at, done, each_of, entry_at, entry_of, false, FinMap, fork, fork_same, forked, forked_child, forked_state, forking, free_of, fresh}
use Rattle.kcall_core.proofs.Prelude.{fun_ext, gathered, get, get_or, get_or-set_other, get_or-set_same, get_other, get_same, Hart, HasImage, HasMemory, Held, held_at, held_cost, in_call, inl, inr}
use Rattle.kcall_core.proofs.Prelude.{insert, is_this, IsBarren, IsRunning, IsSome, IsSound, IsTable, IsWhole, Kernel, le-ltb, length, length-set, List, Live, live_now, live_of, lt-ltb, map}
use Rattle.kcall_core.proofs.Prelude.{minus_one, named_by, named_file, nat_cmp, nat_cmp-IsAntisymmetric, nat_cmp_total, nat_lt, newborn, NOFILE, None, none-some, NPROC, open_file_at, OPEN_FILES}
use Rattle.kcall_core.proofs.Prelude.{Option, or_nobody, or_nothing, or_zero, PID_MAX, pid_now, pipes_of, place_at, place_now, pos, price, Process, process_of, refl, same_map, same_pages, same_Some}
use Rattle.kcall_core.proofs.Prelude.{slot_now, SlotChanges, Slots, slots_are_full, Some, State, state_of, status_of, subst, sym, true, unless, view_now, view_of, with_a0, with_answer, with_saved}
use Rattle.kcall_core.proofs.Prelude.{word}
use Rattle.kcall_core.proofs.processes.HandedDown.{IsHanded}
use Rattle.kcall_core.proofs.memory.Changes.{some-inside}
use Rattle.kcall_core.proofs.files.Namings.{named-seen}
use Rattle.kcall_core.proofs.table.States.{Running, running, not-this, slot-born, slot-anew, current-beside}
use Rattle.kcall_core.proofs.table.OnePlace.{ItsPlace, changed-place, place-counted, in-call-lives}
use Rattle.kcall_core.proofs.turns.WhoRuns.{place-is, place-lives}
use Rattle.kcall_core.proofs.making.Imaged.{image-kept}
use Rattle.kcall_core.proofs.processes.SbrkRow.{kept}
use Rattle.kcall_core.proofs.making.CallAnswers.{IsDone}
use Rattle.kcall_core.proofs.processes.FreeSlot.{IsForNew, no-slot}
use Rattle.kcall_core.proofs.processes.ForkMakes.{IsBorn}
use Rattle.kcall_core.proofs.processes.Handing.{apart}
use Rattle.file_table.specs.OpenFiles as files

-- ---- no child

module _ {k : Kernel} {h : Hart} (whole : IsWhole k h) (runs : IsRunning k) (k1 : Kernel) (b : IsBarren k k1) where
  pub barren-has : HasImage k h (live_now k h).image k1 h
  barren-has = subst (λ (y : Kernel). HasImage k h (live_now k h).image y h) (sym b.rest) (image-kept k h whole.sound runs k1.memories b.same)

  first-two : (x y z : Bool) → (x || y) ≡ true → (x || y || z) ≡ true
  first-two true y z e = refl
  first-two false true z e = refl
  first-two false false z e = let wrong : ⊥ = cc in absurd wrong

  the-third : (x y z : Bool) → z ≡ true → (x || y || z) ≡ true
  the-third true y z e = refl
  the-third false true z e = refl
  the-third false false z e = e

  cannot : cannot_fork (view_now k h) ≡ true
  unfolding view_of state_of
  cannot = elim b.why [
    | inl none ↦ first-two (slots_are_full (view_now k h)) (nat_lt PID_MAX (state_of k h).next_pid) (nat_lt (view_now k h).free (price (view_now k h).image + 1)) (no-slot k h whole.sound none)
    | inr few ↦ the-third (slots_are_full (view_now k h)) (nat_lt PID_MAX (state_of k h).next_pid)
        (nat_lt (view_now k h).free (price (view_now k h).image + 1))
        (lt-ltb (free_of k.memories) (price (held_at (each_of k.memories) (slot_now k)).image + 1) few)
  ]

  pub barren-row : (c : Call) → fork c (view_now k h) ≡ done c minus_one (record (view_now k h) { image = (live_now k h).image; free = (state_of k1 h).free })
  barren-row c = fork_same c (view_now k h) ∙ ap (λ d. unless d c (view_now k h) (λ _. forked c (view_now k h))) cannot ∙ kept k h c barren-has

-- ---- a child

twice : {X : Type 0} (m : FinMap nat_cmp X) (p q : ℕ) (x y z : X) → p ≢ q → insert (insert (insert m q x) p y) q z ≡ insert (insert m p y) q z
twice m p q x y z ne = same_map nat_cmp_total nat_cmp-IsAntisymmetric (insert (insert (insert m q x) p y) q z) (insert (insert m p y) q z) (λ n. elim (cases_eq n q) [
  | inl e ↦ ap (get (insert (insert (insert m q x) p y) q z)) e ∙ get_same (insert (insert m q x) p y) q z ∙ sym (ap (get (insert (insert m p y) q z)) e ∙ get_same (insert m p y) q z)
  | inr other ↦ get_other (insert (insert m q x) p y) q z n other ∙ at n other (cases_eq n p) ∙ sym (get_other (insert m p y) q z n other)
])
  where
    at : (n : ℕ) → n ≢ q → (n ≡ p) ⊎ (n ≢ p) → get (insert (insert m q x) p y) n ≡ get (insert m p y) n
    at n other (inl e) = ap (get (insert (insert m q x) p y)) e ∙ get_same (insert m q x) p y ∙ sym (ap (get (insert m p y)) e ∙ get_same m p y)
    at n other (inr o) = get_other (insert m q x) p y n o ∙ get_other m q x n other ∙ sym (get_other m p y n o)

same-map : (xs ys : List (Option ℕ)) → ((d : ℕ) → d < NOFILE → named_by xs d ≡ named_by ys d) → descriptor_map xs ≡ descriptor_map ys
same-map xs ys same = same_pages (descriptor_map xs) (descriptor_map ys) (λ d. elim (cases_lt d NOFILE) [
  | inl lt ↦ named-seen xs d ∙ ap (λ o. cond (nat_lt d NOFILE) o None) (same d lt) ∙ sym (named-seen ys d)
  | inr ge ↦ named-seen xs d ∙ ap (λ b. cond b (named_by xs d) None) (le-ltb d NOFILE ge) ∙ sym (named-seen ys d ∙ ap (λ b. cond b (named_by ys d) None) (le-ltb d NOFILE ge))
])

module _ {k : Kernel} {h : Hart} (whole : IsWhole k h) (runs : IsRunning k) (child : ℕ) (new : IsForNew k h whole.sound child) (k1 : Kernel) (x : IsHanded k h child NOFILE k1) where
  abbrev s : State
  s = state_of k h

  abbrev p : ℕ
  p = pid_now k

  abbrev l : Live
  l = live_now k h

  abbrev slot : ℕ
  slot = slot_now k

  abbrev first : Process
  first = newborn k.table.next (Some p)

  abbrev theirs : Held
  theirs = held_at (each_of k.memories) slot

  now : Running k h
  now = running k h whole.sound runs

  away : slot ≢ child
  away = apart whole runs child new

  current1 : k1.current ≡ k.current
  current1 = ap (λ (y : Kernel). y.current) x.rest

  slot1 : slot_now k1 ≡ slot
  slot1 = ap or_zero current1

  here1 : place_at k1.table child ≡ Some first
  here1 = ap (λ (t : Slots). place_at t child) x.table ∙ get_or-set_same k.table.places child (Some first) None (omega (arith, new.below, whole.sound.table.places))

  other1 : (j : ℕ) → j ≢ child → place_at k1.table j ≡ place_at k.table j
  other1 j ne = ap (λ (t : Slots). place_at t j) x.table ∙ get_or-set_other k.table.places child j (Some first) None ne

  each1 : get_or (each_of k1.memories) child None ≡ Some (with_saved (fresh 0) theirs)
  each1 = by (some-inside (each_of k1.memories) child (x.sound.lives child first here1 refl))
    where
      by : child < length (each_of k1.memories) → get_or (each_of k1.memories) child None ≡ Some (with_saved (fresh 0) theirs)
      by lt = ap (λ xs. get_or xs child None) x.each ∙ get_or-set_same (each_of k.memories) child (Some (with_saved (fresh 0) theirs)) None
          (omega (arith, lt, ap length x.each, length-set (each_of k.memories) child (Some (with_saved (fresh 0) theirs))))

  each-other : (j : ℕ) → j ≢ child → get_or (each_of k1.memories) j None ≡ get_or (each_of k.memories) j None
  each-other j ne = ap (λ xs. get_or xs j None) x.each ∙ get_or-set_other (each_of k.memories) child j (Some (with_saved (fresh 0) theirs)) None ne

  live1 : live_now k1 h ≡ l
  live1 =
      ap (λ n. live_of (or_nobody (place_at k1.table n)) (descriptors_at k1.table n) (held_at (each_of k1.memories) n) h.regs) slot1
      ∙ (λ t. live_of (or_nobody (other1 slot away t)) (x.others slot away t) (or_nothing (each-other slot away t)) h.regs)

  pid1 : pid_now k1 ≡ p
  pid1 = ap (λ n. (or_nobody (place_at k1.table n)).pid) slot1 ∙ ap (λ o. (or_nobody o).pid) (other1 slot away)

  given-map : descriptor_map (descriptors_at k1.table child) ≡ l.descriptors
  given-map = same-map (descriptors_at k1.table child) (descriptors_at k.table slot) (λ d lt. x.given d ∙ ap (λ b. cond b (named_by (descriptors_at k.table slot) d) None) (lt-ltb d NOFILE lt))

  -- with the child, whatever its registers are
  abbrev child1 : Live
  child1 = live_of first (descriptors_at k1.table child) (held_at (each_of k1.memories) child) (held_at (each_of k1.memories) child).saved

  not-current : (m : Kernel) → m.current ≡ k.current → is_this child m.current ≡ false
  not-current m same = not-this slot child m.current (same ∙ now.current) (λ e. away (sym e))

  processes1 : by_pid (entry_at k1 h) NPROC ≡ insert (by_pid (entry_at k h) NPROC) k.table.next (Alive child1)
  processes1 =
      slot-born k k1 h h child (Alive child1) whole.sound new.below new.vacant (current-beside k k1 h child current1 other1 x.others each-other)
      (ap (entry_of k1 h child) here1 ∙ ap (λ b. Some (
        k.table.next,
        process_of first (descriptors_at k1.table child) (held_at (each_of k1.memories) child)
            (cond b h.regs (held_at (each_of k1.memories) child).saved),
      )) (not-current k1 current1))

  pub handed-has : HasMemory (each_of k1.memories) child
  handed-has = subst (λ o. IsSome o) (sym each1) refl

  module _ (value : ℤ) (named : value ≡ pos k.table.next) (k2 : Kernel) (h2 : Hart) (d : IsDone k1 h value k2 h2) (hart : h2 ≡ record h { regs = with_a0 h.regs (word value) }) where
    memories2 : k2.memories ≡ k1.memories
    memories2 = ap (λ (y : Kernel). y.memories) d.kernel

    current2 : k2.current ≡ k.current
    current2 = ap (λ (y : Kernel). y.current) d.kernel ∙ current1

    table2 : k2.table ≡ changed_at slot (in_call None) k1.table
    table2 = ap (λ (y : Kernel). y.table) d.kernel ∙ ap (λ n. changed_at n (in_call None) k1.table) slot1

    pub done-has : HasMemory (each_of k2.memories) child
    done-has = subst (λ m. HasMemory (each_of m) child) (sym memories2) handed-has

    place-slot : place_at k1.table slot ≡ Some (place_now k)
    place-slot = other1 slot away ∙ place-is k h whole.sound runs

    its : ItsPlace k1.table k2.table slot (place_now k) (in_call None (place_now k))
    its = changed-place k1.table k2.table slot (place_now k) (in_call None) x.sound.table.places now.inside place-slot
        (place-lives k h whole.sound runs) refl (in-call-lives None (place_now k) (place-lives k h whole.sound runs)) table2

    here2 : place_at k2.table child ≡ Some first
    here2 = its.others child (λ e. away (sym e)) ∙ here1

    regs2 : h2.regs ≡ with_a0 l.regs (word (pos k.table.next))
    regs2 = ap (λ (y : Hart). y.regs) hart ∙ ap (λ z. with_a0 h.regs (word z)) named

    processes2 : by_pid (entry_at k2 h2) NPROC ≡ insert (insert (by_pid (entry_at k h) NPROC) k.table.next (Alive child1)) p (Alive (with_answer (pos k.table.next) l))
    unfolding state_of
    processes2 = ap (λ (t : State). t.processes) d.state ∙ (λ t. insert (processes1 t) (pid1 t) (Alive (with_answer (named t) (live1 t))))

    module _ (k3 : Kernel) (saved : SlotChanges k2.memories k3.memories child
        (Some (with_saved (with_a0 h2.regs 0) (held_at (each_of k2.memories) child)))) (rest : k3 ≡ record k2 { memories = k3.memories }) where
      table3 : k3.table ≡ k2.table
      table3 = ap (λ (y : Kernel). y.table) rest

      files3 : k3.files ≡ k1.files
      files3 = ap (λ (y : Kernel). y.files) rest ∙ ap (λ (y : Kernel). y.files) d.kernel

      current3 : k3.current ≡ k2.current
      current3 = ap (λ (y : Kernel). y.current) rest

      place3 : (j : ℕ) → place_at k3.table j ≡ place_at k2.table j
      place3 j = ap (λ (t : Slots). place_at t j) table3

      each3 : get_or (each_of k3.memories) child None ≡ Some (with_saved (with_a0 h2.regs 0) (held_at (each_of k2.memories) child))
      each3 = ap (λ xs. get_or xs child None) saved.each
          ∙ get_or-set_same (each_of k2.memories) child (Some (with_saved (with_a0 h2.regs 0) (held_at (each_of k2.memories) child))) None
          (some-inside (each_of k2.memories) child done-has)

      each3-other : (j : ℕ) → j ≢ child → get_or (each_of k3.memories) j None ≡ get_or (each_of k2.memories) j None
      each3-other j ne = ap (λ xs. get_or xs j None) saved.each ∙ get_or-set_other (each_of k2.memories) child j (Some (with_saved (with_a0 h2.regs 0) (held_at (each_of k2.memories) child))) None ne

      held2 : held_at (each_of k2.memories) child ≡ with_saved (fresh 0) theirs
      held2 = ap (λ m. held_at (each_of m) child) memories2 ∙ ap or_nothing each1

      held3 : held_at (each_of k3.memories) child ≡ with_saved (with_a0 h2.regs 0) theirs
      held3 = ap or_nothing each3 ∙ ap (with_saved (with_a0 h2.regs 0)) held2

      descriptors3 : (j : ℕ) → descriptors_at k3.table j ≡ descriptors_at k1.table j
      descriptors3 j = ap (λ (t : Slots). descriptors_at t j) (table3 ∙ table2)

      born-sound : IsSound k3 h2
      born-sound = record {
        memories = saved.sound;
        table = subst IsTable (sym table3) d.sound.table;
        lives = λ j q at live. elim (cases_eq j child) [
          | inl e ↦ subst (HasMemory (each_of k3.memories)) (sym e) (subst (λ o. IsSome o) (sym each3) refl)
          | inr ne ↦ subst (λ o. IsSome o) (sym (each3-other j ne)) (d.sound.lives j q (sym (place3 j) ∙ at) live)
        ];
        ended = λ j q status at over. elim (cases_eq j child) [
          | inl e ↦ absurd (not-zombie q status (sym (ap (place_at k3.table) e ∙ place3 child ∙ here2) ∙ at) over)
          | inr ne ↦ each3-other j ne ∙ d.sound.ended j q status (sym (place3 j) ∙ at) over
        ];
        vacant = λ j at. elim (cases_eq j child) [
          | inl e ↦ absurd (none-some first (sym at ∙ ap (place_at k3.table) e ∙ place3 child ∙ here2))
          | inr ne ↦ each3-other j ne ∙ d.sound.vacant j (sym (place3 j) ∙ at)
        ];
        current = λ j at.
            let c = d.sound.current j (sym current3 ∙ at) in
            let ne : j ≢ child = λ e. away (same_Some slot child (sym now.current ∙ sym current2 ∙ sym current3 ∙ at ∙ ap Some e)) in
            record { process = c.process; is = place3 j ∙ c.is; live = c.live; runs = saved.runs j h2 ne c.runs };
        idle = λ at. absurd (none-some slot (sym at ∙ current3 ∙ current2 ∙ now.current));
      }
        where
          not-zombie : (q : Process) (status : ℤ) → Some first ≡ Some q → status_of q ≡ Some status → ⊥
          not-zombie q status same over = let e : first ≡ q = cc in none-some status (ap status_of e ∙ over)

      entry3 : entry_at k3 h2 child ≡ Some (k.table.next, Alive (forked_child s p l))
      unfolding state_of
      entry3 =
          ap (entry_of k3 h2 child) (place3 child ∙ here2)
          ∙ (λ t. Some (k.table.next, process_of first (descriptors3 child t) (held3 t) (cond (not-current k3 (current3 ∙ current2) t) h2.regs (held3 t).saved)))
          ∙ (λ t. Some (k.table.next, Alive (record (forked_child s p l) { regs = with_a0 (regs2 t) 0; descriptors = given-map t })))

      processes3 : by_pid (entry_at k3 h2) NPROC ≡ insert (by_pid (entry_at k2 h2) NPROC) k.table.next (Alive (forked_child s p l))
      processes3 =
          slot-anew k2 k3 h2 h2 child first (Alive (forked_child s p l)) d.sound here2
          (current-beside k2 k3 h2 child current3 (λ j ne. place3 j) (λ j ne. ap (λ (t : Slots). descriptors_at t j) table3) each3-other) entry3

      old-pid : p ≢ k.table.next
      old-pid e = omega (arith, e, whole.sound.table.pids.below slot (place_now k) (place-is k h whole.sound runs))

      processes : by_pid (entry_at k3 h2) NPROC ≡ insert (insert (by_pid (entry_at k h) NPROC) p (Alive (forking s l))) k.table.next (Alive (forked_child s p l))
      unfolding state_of
      processes =
          processes3 ∙ ap (λ m. insert m k.table.next (Alive (forked_child s p l))) processes2
          ∙ twice (by_pid (entry_at k h) NPROC) p k.table.next (Alive child1) (Alive (forking s l)) (Alive (forked_child s p l)) old-pid

      free3 : free_of k3.memories + (price l.image + 1) ≡ free_of k.memories
      free3 = omega (arith, saved.free, ap (λ m. free_of m) memories2, ap held_cost (ap (λ m. get_or (each_of m) child None) memories2 ∙ each1), ap (λ (y : Held). price y.image) held2, x.free)

      left : free_of k3.memories ≡ free_of k.memories - (price l.image + 1)
      left = omega (arith, free3)

      born-state : state_of k3 h2 ≡ forked_state p l s
      unfolding state_of
      born-state = λ t. record {
        processes = processes t;
        files = gathered (fun_ext (λ f. ap (λ fs. open_file_at fs f) files3 ∙ x.same f) t) OPEN_FILES;
        pipes = (saved.pipes ∙ ap pipes_of memories2 ∙ x.pipes) t;
        console = (ap (λ (y : Kernel). y.console) rest ∙ ap (λ (y : Kernel). y.console) d.kernel ∙ ap (λ (y : Kernel). y.console) x.rest) t;
        clock = (ap (λ (y : Kernel). y.clock) rest ∙ ap (λ (y : Kernel). y.clock) d.kernel ∙ ap (λ (y : Kernel). y.clock) x.rest) t;
        next_pid = (ap (λ (u : Slots). u.next) table3 ∙ ap (λ (u : Slots). u.next) table2 ∙ ap (λ (u : Slots). u.next) x.table) t;
        free = left t;
        programs = map named_file ((ap (λ (y : Kernel). y.programs.items) rest ∙ ap (λ (y : Kernel). y.programs.items) d.kernel ∙ ap (λ (y : Kernel). y.programs.items) x.rest) t);
      }

      enough : nat_lt (state_of k h).free (price (live_now k h).image + 1) ≡ false
      unfolding state_of
      enough = le-ltb (free_of k.memories) (price l.image + 1) (omega (arith, x.free))

      pub handed-born : IsBorn k h k3 h2 child
      handed-born = record {
        sound = born-sound;
        files = subst files.IsTable (sym files3) x.files;
        counted = subst (λ fs. AreCounted fs k3.table) (sym files3) (subst (AreCounted k1.files) (sym table3) (place-counted its x.counted));
        frames = saved.frames ∙ ap (λ m. length m.ram) memories2 ∙ x.frames;
        last = ap (λ (u : Slots). u.last) table3 ∙ its.last ∙ ap (λ (u : Slots). u.last) x.table;
        current = current3 ∙ current2;
        vacant = new.vacant;
        newborn = place3 child ∙ here2;
        own = place3 slot ∙ its.is;
        others = λ j mine born. place3 j ∙ its.others j mine ∙ other1 j born;
        lowest = new.lowest;
        slots = new.slots;
        pids = new.pids;
        room = enough;
        state = born-state;
      }
