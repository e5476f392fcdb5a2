-- A kernel without processes: what it stands for, and that it is sound.
use Rattle.kcall_core.proofs.Prelude.{ℕ, ◌∙◌, ◌≡◌, ap, arith, by_pid, CountedFile, each_of, empty, empty_console, empty_state, entry_at, entry_file, entry_of, free_of, gathered, get_or, Hart, inl}
use Rattle.kcall_core.proofs.Prelude.{IsSound, IsTable, Kernel, length-replicate, map, named_file, no_process, None, none-some, none_named, none_open, nothing_kept, NPROC, open_file_at, OPEN_FILES}
use Rattle.kcall_core.proofs.Prelude.{Option, option_map, pipes_of, place_at, Process, put, refl, replicate, Slots, state_of, subst, suc, sym, zero}
use Rattle.kcall_core.proofs.memory.Births.{get_or-same}
use Rattle.addr_space.proofs.Empties.{gathered-none}
use Rattle.kcall_core.specs.Memories as memories

-- an empty place
abbrev no-one : Option Process
no-one = None

nobody : (i : ℕ) → place_at (no_process 1) i ≡ None
nobody i = get_or-same None NPROC i

pub none-by-pid : {X : Type 0} (f : ℕ → Option (ℕ × X)) (n : ℕ) → ((i : ℕ) → f i ≡ None) → by_pid f n ≡ empty
unfolding by_pid
none-by-pid f zero none = refl
none-by-pid f (suc n) none = ap (put (by_pid f n)) (none n) ∙ none-by-pid f n none

no-file : (i : ℕ) → open_file_at none_open i ≡ None
no-file i = under (get_or none_open i None) (get_or-same None OPEN_FILES i)
  where
    under : (o : Option CountedFile) → o ≡ None → option_map entry_file o ≡ None
    under o e = ap (option_map entry_file) e

no-table : IsTable (no_process 1)
no-table = record {
  places = length-replicate NPROC no-one;
  descriptors = length-replicate NPROC none_named;
  last = omega arith;
  first = omega arith;
  next = omega arith;
  pids = record {
    apart = λ i j p q one other same. absurd (none-some p (sym (nobody i) ∙ one));
    below = λ i p one. absurd (none-some p (sym (nobody i) ∙ one));
  };
}

module _ (k : Kernel) (h : Hart) (table : k.table ≡ no_process 1) where
  vacant : (i : ℕ) → place_at k.table i ≡ None
  vacant i = ap (λ (t : Slots). place_at t i) table ∙ nobody i

  pub no-process-state : (frames : ℕ) → k.files ≡ none_open → pipes_of k.memories ≡ empty → free_of k.memories ≡ frames
      → state_of k h ≡ record (empty_state frames (map named_file k.programs.items)) { console = k.console; clock = k.clock }
  unfolding state_of
  no-process-state frames files pipes free =
      let processes : by_pid (entry_at k h) NPROC ≡ empty = none-by-pid (entry_at k h) NPROC (λ i. ap (entry_of k h i) (vacant i)) in
      let opened : gathered (open_file_at k.files) OPEN_FILES ≡ empty = ap (λ fs. gathered (open_file_at fs) OPEN_FILES) files ∙ gathered-none (open_file_at none_open) OPEN_FILES no-file in
      λ t. record {
        processes = processes t;
        files = opened t;
        pipes = pipes t;
        console = k.console;
        clock = k.clock;
        next_pid = (table t).next;
        free = free t;
        programs = map named_file k.programs.items;
      }

  pub new-state : (frames : ℕ) → k.files ≡ none_open → k.console ≡ empty_console → k.clock ≡ 0 → pipes_of k.memories ≡ empty
      → free_of k.memories ≡ frames → state_of k h ≡ empty_state frames (map named_file k.programs.items)
  new-state frames files console clock pipes free = no-process-state frames files pipes free
      ∙ (λ t. record (empty_state frames (map named_file k.programs.items)) { console = console t; clock = clock t })

  pub new-sound : k.current ≡ None → memories.AreSound k.memories → each_of k.memories ≡ replicate NPROC None → h.root ≡ None → h.cache ≡ nothing_kept → IsSound k h
  new-sound stopped sound each root cache =
      let none : (i : ℕ) → get_or (each_of k.memories) i None ≡ None = λ i. ap (λ l. get_or l i None) each ∙ get_or-same None NPROC i in
      record {
        memories = sound;
        table = subst IsTable (sym table) no-table;
        lives = λ i p at live. absurd (none-some p (sym (vacant i) ∙ at));
        ended = λ i p status at over. none i;
        vacant = λ i at. none i;
        current = λ i at. absurd (none-some i (sym stopped ∙ at));
        idle = λ e. inl (root, cache);
      }
