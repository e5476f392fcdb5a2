-- Changes of all processes of the table: the children of one become children of pid 1, and those that sleep on a channel wake.
use Rattle.kcall_core.proofs.Prelude.{ℕ, ℤ, ◌∙◌, ◌≡◌, ap, arith, Bool, by_pid, by_status, cases_eq, cases_lt, Channel, cond, descriptors_at, each_changed, each_of, entry_at, entry_of, false, FinMap}
use Rattle.kcall_core.proofs.Prelude.{free_of, gathered, get, get-empty, get-orphans, get_or_past, get_other, get_same, given, given_to, Hart, Held, held_at, if◌then◌else◌, inl, inr, insert}
use Rattle.kcall_core.proofs.Prelude.{is_parent, is_this, IsRunning, IsSound, IsTable, Kernel, length, length-map, List, Live, live_of, Live_state, map, named_file, nat_cmp, nat_cmp-IsAntisymmetric}
use Rattle.kcall_core.proofs.Prelude.{nat_cmp_total, None, none-some, NPROC, open_file_at, OPEN_FILES, Option, option_map, option_map_id, or_nobody, or_zero, orphan, orphans, parent_of, pid_now}
use Rattle.kcall_core.proofs.Prelude.{pipes_of, place_at, Process, process_of, put, refl, Registers, regs_at, same_map, slot_now, Slots, Some, state_of, state_status, state_woken, status_of, subst}
use Rattle.kcall_core.proofs.Prelude.{suc, sym, table_each, true, woken, zero, Zombie_state}
use Rattle.std.proofs.lemmas.List.{get_or-map}
use Rattle.kcall_core.proofs.table.States.{running}
use Rattle.proc_table.specs.declared.process.State as table
use Rattle.kernel_spec.specs.views.Processes as meaning

-- each entry is changed by one function
module _ {X : Type 0} (F : X → X) where
  abbrev each : Option (ℕ × X) → Option (ℕ × X)
  each o = option_map (λ (e : ℕ × X). (e.0, F e.1)) o

  put-each : (m m' : FinMap nat_cmp X) (q : ℕ) (o : Option (ℕ × X)) → get m' q ≡ option_map F (get m q) → get (put m' (each o)) q ≡ option_map F (get (put m o) q)
  put-each m m' q None h = h
  put-each m m' q (Some e) h = elim (cases_eq q e.0) [
    | inl at ↦ ap (get (insert m' e.0 (F e.1))) at ∙ get_same m' e.0 (F e.1) ∙ sym (ap (option_map F) (ap (get (insert m e.0 e.1)) at ∙ get_same m e.0 e.1))
    | inr apart ↦ get_other m' e.0 (F e.1) q apart ∙ h ∙ sym (ap (option_map F) (get_other m e.0 e.1 q apart))
  ]

  by_pid-each : (f g : ℕ → Option (ℕ × X)) (n q : ℕ) → ((j : ℕ) → g j ≡ each (f j)) → get (by_pid g n) q ≡ option_map F (get (by_pid f n) q)
  unfolding by_pid
  by_pid-each f g zero q h = get-empty nat_cmp q ∙ sym (ap (option_map F) (get-empty nat_cmp q))
  by_pid-each f g (suc n) q h = ap (λ o. get (put (by_pid g n) o) q) (h n) ∙ put-each (by_pid f n) (by_pid g n) q (f n) (by_pid-each f g n q h)

-- a process, and what it means
given-orphan : (p : ℕ) (x : Process) (files : List (Option ℕ)) (held : Held) (regs : Registers) → process_of (given p 1 x) files held regs ≡ orphan p (process_of x files held regs)
given-orphan p x files held regs = by x.parent refl (status_of x) refl
  where
    l : Option ℕ → Live
    l o = record (live_of x files held regs) { parent = o }

    under : (b : Bool) (o : Option ℕ) (s : Option ℤ) → by_status (if b then Some 1 else o) (l (if b then Some 1 else o)) s ≡ cond b (given_to 1 (by_status o (l o) s)) (by_status o (l o) s)
    under true o None = refl
    under true o (Some status) = refl
    under false o None = refl
    under false o (Some status) = refl

    parent-of : (o : Option ℕ) (s : Option ℤ) → parent_of (by_status o (l o) s) ≡ o
    parent-of o None = refl
    parent-of o (Some status) = refl

    same : (o : Option ℕ) → is_parent p o ≡ is_this p o
    same None = refl
    same (Some q) = refl

    by : (o : Option ℕ) → x.parent ≡ o → (s : Option ℤ) → status_of x ≡ s → process_of (given p 1 x) files held regs ≡ orphan p (process_of x files held regs)
    by o e s over =
        under (is_parent p x.parent) x.parent (status_of x)
        ∙ ap (λ b. cond b (given_to 1 (by_status x.parent (l x.parent) (status_of x))) (by_status x.parent (l x.parent) (status_of x)))
        (same x.parent ∙ ap (is_this p) (sym (parent-of x.parent (status_of x))))

-- every process of the table changes, but for its pid and its status, and nothing else
module _ (k k' : Kernel) (f : Process → Process) (F : meaning.Process → meaning.Process) (table : k'.table ≡ each_changed f k.table)
    (rest : k' ≡ record k { table = k'.table }) (pids : (x : Process) → (f x).pid ≡ x.pid) (statuses : (x : Process) → status_of (f x) ≡ status_of x)
    (means : (x : Process) (files : List (Option ℕ)) (held : Held) (regs : Registers) → process_of (f x) files held regs ≡ F (process_of x files held regs)) where
  place : (j : ℕ) → place_at k'.table j ≡ option_map f (place_at k.table j)
  place j = ap (λ (t : Slots). place_at t j) table ∙ elim (cases_lt j (length k.table.places)) [
    | inl lt ↦ get_or-map (option_map f) k.table.places j None None lt
    | inr ge ↦ get_or_past (map (option_map f) k.table.places) j None (omega (arith, ge, length-map k.table.places (option_map f))) ∙ sym (ap (option_map f) (get_or_past k.table.places j None ge))
  ]

  entry : (h : Hart) (j : ℕ) → entry_at k' h j ≡ each F (entry_at k h j)
  entry h j = ap (entry_of k' h j) (place j) ∙ (λ t. entry_of (rest t) h j (option_map f (place_at k.table j))) ∙ under (place_at k.table j)
    where
      files : descriptors_at k'.table j ≡ descriptors_at k.table j
      files = ap (λ (t : Slots). descriptors_at t j) table

      under : (o : Option Process) → entry_of (record k { table = k'.table }) h j (option_map f o) ≡ each F (entry_of k h j o)
      under None = refl
      under (Some x) =
          ap (λ fs. Some ((f x).pid, process_of (f x) fs (held_at (each_of k.memories) j) (regs_at k h j))) files
          ∙ (λ t. Some (pids x t, means x (descriptors_at k.table j) (held_at (each_of k.memories) j) (regs_at k h j) t))

  all-changed : (h : Hart) (q : ℕ) → get (by_pid (entry_at k' h) NPROC) q ≡ option_map F (get (by_pid (entry_at k h) NPROC) q)
  all-changed h q = by_pid-each F (entry_at k h) (entry_at k' h) NPROC q (entry h)

  pub changed-state : (h : Hart) (processes : FinMap nat_cmp meaning.Process)
      → ((q : ℕ) → option_map F (get (by_pid (entry_at k h) NPROC) q) ≡ get processes q) → state_of k' h ≡ record (state_of k h) { processes = processes }
  unfolding state_of
  changed-state h processes are =
      let same : by_pid (entry_at k' h) NPROC ≡ processes = same_map nat_cmp_total nat_cmp-IsAntisymmetric (by_pid (entry_at k' h) NPROC) processes (λ q. all-changed h q ∙ are q) in
      λ t. record {
        processes = same t;
        files = gathered (open_file_at (rest t).files) OPEN_FILES;
        pipes = pipes_of (rest t).memories;
        console = (rest t).console;
        clock = (rest t).clock;
        next_pid = (table t).next;
        free = free_of (rest t).memories;
        programs = map named_file (rest t).programs.items;
      }

  found : (j : ℕ) (p : Process) → place_at k'.table j ≡ Some p → (x : Process) × (place_at k.table j ≡ Some x) × (status_of p ≡ status_of x)
  found j p at = by (place_at k.table j) refl (sym (place j) ∙ at)
    where
      by : (o : Option Process) → place_at k.table j ≡ o → option_map f o ≡ Some p → (x : Process) × (place_at k.table j ≡ Some x) × (status_of p ≡ status_of x)
      by None is e = absurd (none-some p e)
      by (Some x) is e = let same : f x ≡ p = cc in (x, is, sym (ap status_of same) ∙ statuses x)

  gone : (j : ℕ) → place_at k'.table j ≡ None → place_at k.table j ≡ None
  gone j at = by (place_at k.table j) refl (sym (place j) ∙ at)
    where
      by : (o : Option Process) → place_at k.table j ≡ o → option_map f o ≡ None → place_at k.table j ≡ None
      by None is e = is
      by (Some x) is e = absurd (none-some (f x) (sym e))

  pub changed-sound : (h : Hart) → IsSound k h → IsSound k' h
  changed-sound h sound = subst (λ n. IsSound n h) (sym rest) (record {
    memories = sound.memories;
    table = subst IsTable (sym table) (table_each k.table f (map (option_map f) k.table.places) sound.table pids refl);
    lives = λ j p at live. let x = found j p at in sound.lives j x.0 x.1 (sym x.2 ∙ live);
    ended = λ j p status at over. let x = found j p at in sound.ended j x.0 status x.1 (sym x.2 ∙ over);
    vacant = λ j at. sound.vacant j (gone j at);
    current = λ j is. let now = sound.current j is in record { process = f now.process; is = place j ∙ ap (option_map f) now.is; live = statuses now.process ∙ now.live; runs = now.runs };
    idle = sound.idle;
  })

-- ---- adopted

module _ (k k' : Kernel) (pid : ℕ) (table : k'.table ≡ each_changed (given pid 1) k.table) (rest : k' ≡ record k { table = k'.table }) where
  pub adopted-state : (h : Hart) → state_of k' h ≡ orphans pid (state_of k h)
  unfolding state_of
  adopted-state h = changed-state k k' (given pid 1) (orphan pid) table rest (λ x. refl) (λ x. refl) (given-orphan pid) h
      (orphans pid (state_of k h)).processes (λ q. sym (get-orphans pid (state_of k h) q))

  pub adopted-sound : (h : Hart) → IsSound k h → IsSound k' h
  adopted-sound h sound = changed-sound k k' (given pid 1) (orphan pid) table rest (λ x. refl) (λ x. refl) (given-orphan pid) h sound

  pub adopted-pid : (h : Hart) → IsSound k h → IsRunning k → k'.current ≡ k.current → pid_now k' ≡ pid_now k
  adopted-pid h sound runs current =
      let r = running k h sound runs in
      let p = r.is.process in
      ap (λ o. (or_nobody (place_at k'.table (or_zero o))).pid) current
      ∙ ap or_pid (place k k' (given pid 1) (orphan pid) table rest (λ x. refl) (λ x. refl) (given-orphan pid) (slot_now k) ∙ ap (option_map (given pid 1)) r.is.is)
      ∙ sym (ap or_pid r.is.is)
    where
      or_pid : Option Process → ℕ
      or_pid o = (or_nobody o).pid

-- ---- woken: who sleeps is no part of the state

woken-means : (on : Channel) (x : Process) (files : List (Option ℕ)) (held : Held) (regs : Registers) → process_of (woken on x) files held regs ≡ process_of x files held regs
woken-means on x files held regs = by x.state
  where
    by : (s : table.State) → process_of (record x { state = state_woken on s }) files held regs ≡ process_of (record x { state = s }) files held regs
    by (Live_state life) = refl
    by (Zombie_state status) = refl

woken-status : (on : Channel) (x : Process) → status_of (woken on x) ≡ status_of x
woken-status on x = by x.state
  where
    by : (s : table.State) → state_status (state_woken on s) ≡ state_status s
    by (Live_state life) = refl
    by (Zombie_state status) = refl

module _ (k k' : Kernel) (on : Channel) (table : k'.table ≡ each_changed (woken on) k.table) (rest : k' ≡ record k { table = k'.table }) where
  pub woken-state : (h : Hart) → state_of k' h ≡ state_of k h
  unfolding state_of
  woken-state h = changed-state k k' (woken on) (λ x. x) table rest (λ x. refl) (woken-status on) (woken-means on) h (by_pid (entry_at k h) NPROC)
      (λ q. option_map_id (get (by_pid (entry_at k h) NPROC) q))

  pub woken-sound : (h : Hart) → IsSound k h → IsSound k' h
  woken-sound h sound = changed-sound k k' (woken on) (λ x. x) table rest (λ x. refl) (woken-status on) (woken-means on) h sound
