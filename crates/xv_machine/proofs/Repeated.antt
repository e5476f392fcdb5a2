-- Steps of the process that runs, one after another.
use Rattle.std.proofs.Common.{◌≡◌, ◌≢◌, inl, inr, ℕ, zero, suc, arith, ◌+◌, ◌<◌, false, replicate, List, ◌∷◌, [], Option, Some, None, refl, sym, ap, ◌∙◌, subst}
use Rattle.std.specs.Prelude.{IsSome, is_some, option_map}
use Rattle.std.proofs.lemmas.List.{replicate_more}
use Rattle.std.proofs.lemmas.Bool.{true≢false}
use Rattle.std.proofs.lemmas.Option.{same_Some}
use Rattle.rv64i_core.specs.Registers.{Registers}
use Rattle.rv64i_core.specs.Memory.{Store}
use Rattle.rv64i_core.specs.declared.execution.Stop.{Stop}
use Rattle.rv64i_core.specs.declared.execution.Stop.TheVariants as stops
use Rattle.hart_core.specs.declared.hart.Hart.{Hart}
use Rattle.proc_table.specs.declared.process.Call.{Call}
use Rattle.kernel_spec.specs.views.Processes.{Live}
use Rattle.kernel_spec.specs.views.State.{live}
use Rattle.kernel_spec.specs.views.View.{view, view_of}
use Rattle.kernel_spec.specs.steps.Own.{Own, Stepped, goes_on}
use Rattle.kernel_spec.specs.steps.Step.{own, stored}
use Rattle.kernel_spec.specs.rows.Touches.{before_instruction}
use Rattle.kernel_spec.specs.steps.Cases as laws
use Rattle.kernel_spec.specs.runs.Run.{World, Run, Step_of, stays_current, halts_with}
use Rattle.kernel_spec.specs.runs.Run as runs
use Rattle.kernel_spec.specs.waking.Wakes.{Promised, IsPromised}
use Rattle.kcall_core.specs.Kernel.{state_of, IsRunning, pid_now, live_now}
use Rattle.kcall_core.specs.Machine.{turns_of, world_of}
use Rattle.kcall_core.specs.Whole.{IsWhole}
use Rattle.kcall_core.specs.Makes.{Makes, MakesDone, IsUndone, IsLastMade, MakesInARow, Stays, StillRuns, view_now, stop_now}
use Rattle.kcall_core.specs.declared.kernel.Kernel.{Kernel}
use Rattle.kernel_spec.proofs.runs.Boot.{promised_runs_join}
use Rattle.kcall_core.proofs.runs.Promises.{step-promised, view-is}
use Rattle.xv_machine.specs.declared.event.RunOutcome.{RunOutcome}
use Rattle.xv_machine.specs.Drives.{done_by}
use Rattle.xv_machine.specs.Events.{run_outcome_of}
use Rattle.xv_machine.specs.Sound.{IsHalted}
use Rattle.xv_machine.specs.Steps.{IsBusy, Did, Advanced}
use Rattle.xv_machine.proofs.OneStep.{next-answer, stop-behind}
use Rattle.xv_machine.proofs.Runs.{current-pid, halts-after}

-- ---- what isn't a done instruction

-- a process that is busy and not marked is in a call
pub busy-in-call : (l : Live) → IsBusy l → l.killed ≡ false → IsSome l.call
busy-in-call l (inl marked) free = absurd (true≢false (sym marked ∙ free))
busy-in-call l (inr call) free = call

pub number-some : (o : Option Call) → is_some (option_map (λ (c : Call). c.number) o) ≡ is_some o
number-some None = refl
number-some (Some c) = refl

-- ---- a done instruction

module _ (k k' : Kernel) (h h' : Hart) (whole : IsWhole k h) (runs : IsRunning k) (free : laws.IsBetweenCalls (live_now k h))
    (next : stop_now k h ≡ stops.Next) (made : Makes k h (own (view_now k h)) k' h') where
  answer-is : (own (view_now k h)).answer ≡ Stepped
  answer-is = next-answer k h free next

  now-current : (turns_of k' None).current ≡ Some (pid_now k)
  unfolding turns_of
  now-current = made.turns.current ∙ ap (stays_current (pid_now k)) answer-is

  runs-on : IsRunning k' × (pid_now k ≡ pid_now k')
  runs-on = current-pid k' (pid_now k) now-current

  pub step-done : Promised (world_of k h None) Run (Step_of (pid_now k) Stepped) (world_of k' h' None)
  step-done = subst (λ a. Promised (world_of k h None) Run (Step_of (pid_now k) a) (world_of k' h' (halts_with (pid_now k) a))) answer-is (step-promised k k' h h' whole runs made)

  first-lives-on : IsSome (live (state_of k h) 1) → IsSome (live (state_of k' h') 1)
  first-lives-on first = subst (λ a. IsHalted (state_of k' h') (turns_of k' (halts_with (pid_now k) a)) (halts_with (pid_now k) a)) answer-is (halts-after k k' h h' whole runs made first)

  next-view : view (state_of k' h') (pid_now k) ≡ (own (view_now k h)).next
  unfolding view_of
  next-view = made.state.next

  next-is : (r : Registers) (st : Option Store) → own (view_now k h) ≡ goes_on Stepped (stored (before_instruction (view_now k h)) r st)
      → view_now k' h' ≡ stored (before_instruction (view_now k h)) r st
  next-is r st is =
      same_Some (view_now k' h') (stored (before_instruction (view_now k h)) r st)
      (sym (view-is k' h' made.whole.sound runs-on.0) ∙ ap (view (state_of k' h')) (sym runs-on.1) ∙ next-view ∙ ap (λ (o : Own). o.next) is)

-- ---- one after another

pub did-none : (k : Kernel) (h : Hart) → IsWhole k h → IsRunning k → IsSome (live (state_of k h) 1) → Did k h 0 k h
did-none k h whole runs first = record { whole = whole; running = runs; pid = refl; first = first; run = refl; frames = refl }

pub did-more : (k mid k' : Kernel) (h hart h' : Hart) (n : ℕ) → Did k h n mid hart → laws.IsBetweenCalls (live_now mid hart) → stop_now mid hart ≡ stops.Next
    → Makes mid hart (own (view_now mid hart)) k' h' → Did k h (n + 1) k' h'
did-more k mid k' h hart h' n did free next made =
    let on = runs-on mid k' hart h' did.whole did.running free next made in
    let one : Promised (world_of mid hart None) Run (Step_of (pid_now k) Stepped) (world_of k' h' None) =
    subst (λ p. Promised (world_of mid hart None) Run (Step_of p Stepped) (world_of k' h' None)) did.pid (step-done mid k' hart h' did.whole did.running free next made) in
    record {
      whole = made.whole;
      running = on.0;
      pid = sym on.1 ∙ did.pid;
      first = first-lives-on mid k' hart h' did.whole did.running free next made did.first;
      run = subst (λ (es : List (runs.Event × runs.Outcome)). IsPromised (world_of k h None) es (world_of k' h' None)) (replicate_more n (done_by (pid_now k)))
          (promised_runs_join (world_of k h None) (world_of mid hart None) (world_of k' h' None) (replicate n (done_by (pid_now k)))
          (done_by (pid_now k) ∷ []) did.run (world_of k' h' None, one, refl));
      frames = made.frames ∙ did.frames;
    }

-- the next instruction isn't done, which leaves all as it was
pub did-stays : (k mid k' : Kernel) (h hart h' : Hart) (n : ℕ) → Did k h n mid hart → Stays mid hart k' h' → StillRuns mid hart k' h' → Did k h n k' h'
did-stays k mid k' h hart h' n did stays still = record {
  whole = stays.whole;
  running = still.running;
  pid = still.pid ∙ did.pid;
  first = ap (λ (w : World). is_some (live w.state 1)) stays.world ∙ did.first;
  run = subst (λ (w : World). IsPromised (world_of k h None) (replicate n (done_by (pid_now k))) w) (sym stays.world) did.run;
  frames = stays.frames ∙ did.frames;
}

-- ---- the kernel's instructions in a row

made-did : (count : ℕ) (k : Kernel) (h : Hart) (mid : Kernel) (between : Hart) → IsWhole k h → IsRunning k → IsSome (live (state_of k h) 1)
    → MakesDone count k h mid between → Did k h count mid between
made-did zero k h mid between whole runs first done = subst (λ x. Did k h 0 x between) (sym done.0) (subst (λ x. Did k h 0 k x) (sym done.1) (did-none k h whole runs first))
made-did (suc count) k h mid between whole runs first (last, hart, before, free, next, made) =
    subst (λ n. Did k h n mid between) (next-is count) (did-more k last mid h hart between count (made-did count k h last hart whole runs first before) free next made)
  where
    next-is : (n : ℕ) → n + 1 ≡ suc n
    next-is n = omega arith

module _ (k k' : Kernel) (h h' : Hart) (most made : ℕ) (stop : Stop) (row : MakesInARow most made stop k h k' h') where
  pub row-undone : stop ≢ stops.Next → IsUndone most made stop row.mid row.between k' h'
  row-undone other = by stop row.last other
    where
      by : (s : Stop) → IsLastMade most made s row.mid row.between k' h' → s ≢ stops.Next → IsUndone most made s row.mid row.between k' h'
      by stops.Next last other = absurd (other refl)
      by stops.Ecall last other = last
      by (stops.Fault cause) last other = last

  pub row-stop : stop ≢ stops.Next → stop ≡ stop_now k' h'
  row-stop other = stop-behind row.mid k' row.between h' stop row.whole row.running (row-undone other).stays (row-undone other).ends

  module _ (whole : IsWhole k h) (runs : IsRunning k) (first : IsSome (live (state_of k h) 1)) where
    pub row-did : Did k h made k' h'
    row-did = by stop row.last
      where
        before : Did k h made row.mid row.between
        before = made-did made k h row.mid row.between whole runs first row.done

        by : (s : Stop) → IsLastMade most made s row.mid row.between k' h' → Did k h made k' h'
        by stops.Next last = subst (λ x. Did k h made x h') (sym last.1) (subst (λ x. Did k h made row.mid x) (sym last.2) before)
        by stops.Ecall last = did-stays k row.mid k' h row.between h' made before last.stays last.same
        by (stops.Fault cause) last = did-stays k row.mid k' h row.between h' made before last.stays last.same

    pub row-pid : (pid : ℕ) → pid ≡ pid_now k → pid ≡ pid_now k'
    row-pid pid is = is ∙ sym row-did.pid

    -- all were done
    pub row-all : stop ≡ stops.Next → Advanced k h most made None k' h'
    row-all next = record { kernel = k'; hart = h'; did = row-did; ends = (by stop row.last next, refl, refl) }
      where
        by : (s : Stop) → IsLastMade most made s row.mid row.between k' h' → s ≡ stops.Next → made ≡ most
        by stops.Next last e = last.0
        by stops.Ecall last e = let bad : ⊥ = cc in absurd bad
        by (stops.Fault cause) last e = let bad : ⊥ = cc in absurd bad

    -- the one behind them isn't done, and this came of it
    pub row-trap : stop ≢ stops.Next → (pid : ℕ) (o : RunOutcome) (k'' : Kernel) (h'' : Hart) → pid ≡ pid_now k
        → Makes k' h' (own (view_now k' h')) k'' h'' → run_outcome_of o ≡ Step_of pid (own (view_now k' h')).answer
        → ((p : ℕ) → run_outcome_of o ≢ Step_of p Stepped) → Advanced k h most made (Some o) k'' h''
    row-trap other pid o k'' h'' is made answer not_done = record {
      kernel = k';
      hart = h';
      did = row-did;
      ends = ((row-undone other).fewer, made, answer ∙ ap (λ p. Step_of p (own (view_now k' h')).answer) (row-pid pid is), not_done);
    }

-- a step of a process that is busy
pub busy-advanced : (k k' : Kernel) (h h' : Hart) (most pid : ℕ) (o : RunOutcome) → IsWhole k h → IsRunning k → IsSome (live (state_of k h) 1)
    → 0 < most → pid ≡ pid_now k → Makes k h (own (view_now k h)) k' h'
    → run_outcome_of o ≡ Step_of pid (own (view_now k h)).answer → ((p : ℕ) → run_outcome_of o ≢ Step_of p Stepped) → Advanced k h most 0 (Some o) k' h'
busy-advanced k k' h h' most pid o whole runs first some is made answer not_done = record {
  kernel = k;
  hart = h;
  did = did-none k h whole runs first;
  ends = (some, made, answer ∙ ap (λ p. Step_of p (own (view_now k h)).answer) is, not_done);
}

pub some-none : (o : Option Call) → IsSome o → o ≡ None → ⊥
some-none None some none = let bad : ⊥ = cc in bad
some-none (Some c) some none = let bad : ⊥ = cc in bad
