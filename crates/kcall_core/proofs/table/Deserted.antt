-- A kernel without a process is whole: nothing is open, nobody sleeps, and all frames are free. A tick leaves it so.
use Rattle.kcall_core.proofs.Prelude.{ℕ, ◌∙◌, ◌∷◌, ◌≡◌, ap, AreCounted, arith, Channel, Console, contains, contains-empty, cost, descriptors_at, each_changed, empty_console, empty_state, false}
use Rattle.kcall_core.proofs.Prelude.{false≢true, file_at, file_of, frame_count, free_of, get, get-empty, Hart, HasNoProcess, held_bytes, is_some, IsSome, IsSound, IsWhole, IsWithinLimits}
use Rattle.kcall_core.proofs.Prelude.{KeepBuffers, Kernel, len-empty, length, List, live_part, map, named_file, nat_cmp, no_process, None, none-some, none_named, NoReadySleeper, NPROC, OpenFile}
use Rattle.kcall_core.proofs.Prelude.{Option, option_map, over_all, Pipe, pipes_of, place_at, Process, ProgramFile, refl, replicate, sleeper_in, sleepers_below, Slots, Some, State, state_of, subst}
use Rattle.kcall_core.proofs.Prelude.{suc, sum_below, sym, turns_of, WellFormed, woken, world_of, zero}
use Rattle.kcall_core.proofs.memory.Births.{get_or-same}
use Rattle.kcall_core.proofs.table.FirstWhole.{none-asleep, none-counted, none-open-table}
use Rattle.kcall_core.proofs.table.NoProcess.{no-process-state}
use Rattle.std.specs.FinSet as set
use Rattle.file_table.specs.OpenFiles as files
use Rattle.kernel_spec.specs.views.Processes as meaning

-- a place that nobody has
abbrev no-one : Option Process
no-one = None

-- ---- the state

module _ (frames : ℕ) (programs : List ProgramFile) (console : Console) (clock : ℕ) where
  abbrev s : State
  s = record (empty_state frames programs) { console = console; clock = clock }

  no-process-at : (p : ℕ) → IsSome (get s.processes p) → ⊥
  no-process-at p there = false≢true (sym (ap is_some (get-empty nat_cmp p)) ∙ there)

  no-file-at : (p d : ℕ) → file_at s p d ≡ None
  no-file-at p d = ap (λ (o : Option meaning.Process). file_of (live_part o) d) (get-empty nat_cmp p)

  no-open : (f : ℕ) (x : OpenFile) → get s.files f ≡ Some x → ⊥
  no-open f x is = none-some x (sym (get-empty nat_cmp f) ∙ is)

  no-pipe : (i : ℕ) (x : Pipe) → get s.pipes i ≡ Some x → ⊥
  no-pipe i x is = none-some x (sym (get-empty nat_cmp i) ∙ is)

  costs-nothing : over_all s cost ≡ 0
  unfolding sum_below
  costs-nothing = omega (arith, ap cost (get-empty nat_cmp 0))

  pub no-process-well : IsWithinLimits console → WellFormed frames s
  no-process-well within = record {
    pids = λ p there. absurd (no-process-at p there);
    first = λ p there. absurd (no-process-at p there);
    parents = λ p x is. absurd (no-process-at p (ap is_some is));
    descriptors = λ p d f is. absurd (none-some f (sym (no-file-at p d) ∙ is));
    ends = λ f i x end is on. absurd (no-open f x is);
    named = λ f there. absurd (false≢true (sym (ap is_some (get-empty nat_cmp f)) ∙ there));
    readers = λ i x is. absurd (no-pipe i x is);
    writers = λ i x is. absurd (no-pipe i x is);
    held = λ i x is. absurd (no-pipe i x is);
    counted = omega (arith, costs-nothing, len-empty nat_cmp Pipe);
    pipe_bytes = λ i x is. absurd (no-pipe i x is);
    keys = within.typed;
    to_send = within.sent_later;
  }

-- ---- the kernel

module _ (k : Kernel) (nobody : HasNoProcess k) where
  vacant : (j : ℕ) → place_at k.table j ≡ None
  vacant j = ap (λ (t : Slots). place_at t j) nobody.table ∙ get_or-same None NPROC j

  not-held : (j : ℕ) (p : Process) → place_at k.table j ≡ Some p → ⊥
  not-held j p is = none-some p (sym (vacant j) ∙ is)

  shut : (j : ℕ) → descriptors_at k.table j ≡ none_named
  shut j = ap (λ (t : Slots). descriptors_at t j) nobody.table ∙ get_or-same none_named NPROC j

  nobody-sleeps : (p : ℕ) → contains (sleepers_below k.table NPROC) p ≡ false
  nobody-sleeps p = ap (λ (xs : set.FinSet nat_cmp). contains xs p) (none-asleep k.table (λ j. ap sleeper_in (vacant j)) NPROC) ∙ contains-empty nat_cmp p

  none-waits : (h : Hart) → NoReadySleeper (world_of k h None)
  unfolding turns_of
  none-waits h p v asleep seen = absurd (false≢true (sym (nobody-sleeps p) ∙ asleep))

  pub no-process-whole : (h : Hart) → IsSound k h → IsWithinLimits k.console → IsWhole k h
  no-process-whole h sound within = let state = no-process-state k h nobody.table (frame_count k) nobody.files nobody.pipes nobody.free in record {
    sound = sound;
    well = subst (WellFormed (frame_count k)) (sym state)
        (no-process-well (frame_count k) (map named_file k.programs.items) k.console k.clock within);
    files = subst files.IsTable (sym nobody.files) none-open-table;
    counted = subst (λ fs. AreCounted fs k.table) (sym nobody.files) (none-counted k.table shut);
    channels = λ j p m channel held is asleep. absurd (not-held j p held);
    awake = λ j p runs held. absurd (not-held j p held);
    unready = none-waits h;
    buffers = subst KeepBuffers (sym state) (λ p m lives. absurd (none-some m (sym (ap live_part (get-empty nat_cmp p)) ∙ lives)));
  }

-- an empty console is within its limits
pub empty-within : (c : Console) → c ≡ empty_console → IsWithinLimits c
empty-within c is = record { typed = omega (arith, ap held_bytes is); sent_later = omega (arith, ap (λ (d : Console). length d.to_send) is) }

-- the console of a kernel that is whole is within its limits
pub console-within : (k : Kernel) (h : Hart) → IsWhole k h → IsWithinLimits k.console
unfolding state_of
console-within k h whole = record { typed = whole.well.keys; sent_later = whole.well.to_send }

-- ---- what leaves it so

-- whose pipes and free frames the state tells
pub pipes-told : (k : Kernel) (h : Hart) → pipes_of k.memories ≡ (state_of k h).pipes
unfolding state_of
pipes-told k h = refl

pub free-told : (k : Kernel) (h : Hart) → free_of k.memories ≡ (state_of k h).free
unfolding state_of
free-told k h = refl

-- nobody changes in a table without a process
pub wakes-nobody : (f : Process → Process) (n : ℕ) → map (option_map f) (replicate n no-one) ≡ replicate n no-one
wakes-nobody f zero = refl
wakes-nobody f (suc n) = ap (λ ps. no-one ∷ ps) (wakes-nobody f n)

pub tick-leaves : (k k' : Kernel) (h h' : Hart) (on : Channel) (clock : ℕ) → HasNoProcess k → k'.table ≡ each_changed (woken on) k.table
    → k'.current ≡ None → k'.files ≡ k.files → frame_count k' ≡ frame_count k
    → state_of k' h' ≡ record (state_of k h) { clock = clock } → HasNoProcess k'
tick-leaves k k' h h' on clock nobody table stopped opened frames state = record {
  table = table ∙ ap (each_changed (woken on)) nobody.table ∙ ap (λ ps. record (no_process 1) { places = ps }) (wakes-nobody (woken on) NPROC);
  current = stopped;
  files = opened ∙ nobody.files;
  pipes = pipes-told k' h' ∙ ap (λ (t : State). t.pipes) state ∙ sym (pipes-told k h) ∙ nobody.pipes;
  free = free-told k' h' ∙ ap (λ (t : State). t.free) state ∙ sym (free-told k h) ∙ nobody.free ∙ sym frames;
}
