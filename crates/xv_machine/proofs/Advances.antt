-- Steps of the process that runs, as the machine sees them.
use Rattle.std.proofs.Common.{◌≡◌, ℕ, List, [], ◌∷◌, replicate, Option, Some, None, refl, sym, ap, ◌∙◌, subst}
use Rattle.std.specs.Prelude.{ℤ}
use Rattle.hart_core.specs.declared.hart.Hart.{Hart}
use Rattle.circular_buffer.specs.Buffer.{Buffer}
use Rattle.kernel_spec.specs.runs.Run as runs
use Rattle.kernel_spec.specs.steps.Own.{Answer}
use Rattle.kernel_spec.specs.runs.Run.{World, Run, Step_of, Idle, Halted}
use Rattle.kernel_spec.specs.waking.Wakes.{Promised, IsPromised}
use Rattle.kcall_core.specs.Kernel.{frame_count, state_of, pid_now}
use Rattle.kcall_core.specs.Machine.{turns_of, world_of}
use Rattle.kcall_core.specs.Whole.{IsWhole}
use Rattle.kcall_core.specs.declared.kernel.Kernel.{Kernel}
use Rattle.kernel_spec.proofs.runs.Boot.{promised_runs_join}
use Rattle.xv_machine.specs.declared.trace.Note.{Note}
use Rattle.xv_machine.specs.declared.event.RunOutcome.{RunOutcome}
use Rattle.xv_machine.specs.Drives.{done_by}
use Rattle.xv_machine.specs.Events.{run_outcome_of, halted_by}
use Rattle.xv_machine.specs.Machine.{meaning_of}
use Rattle.xv_machine.specs.Meaning.{Meaning}
use Rattle.xv_machine.specs.Sound.{IsHalted}
use Rattle.xv_machine.specs.Steps.{Did, Advanced, runs_made, IsEnd}
use Rattle.xv_machine.proofs.Runs.{current-pid, not-halted, run-step, run-halts}

abbrev Steps : Type 0
Steps = List (runs.Event × runs.Outcome)

-- a step is no Run in which nobody may run, and none of a halted machine
step-runs : {p : ℕ} {answer : Answer} → Step_of p answer ≡ Idle → ⊥
step-runs e = cc

step-is-on : {p : ℕ} {answer : Answer} → Step_of p answer ≡ Halted → ⊥
step-is-on e = cc

-- who runs, as the machine's calls know it
pub now-running : (k : Kernel) (h : Hart) (halted : Option ℤ) (trace : Buffer Note) (now : Meaning) (pid : ℕ)
    → meaning_of (record { kernel = k; hart = h; halted = halted; trace = trace }) ≡ now → now.world.turns.current ≡ Some pid
    → (turns_of k None).current ≡ Some pid
unfolding turns_of
now-running k h halted trace now pid is current = ap (λ (m : Meaning). m.world.turns.current) is ∙ current

module _ (k : Kernel) (h : Hart) (halted : Option ℤ) (pid : ℕ) (current : (turns_of k None).current ≡ Some pid) (end : IsHalted (state_of k h) (turns_of k halted) halted) where
  pub is-on : halted ≡ None
  is-on = not-halted k h halted end (current-pid k pid current).0

  module _ (most made : ℕ) (k' : Kernel) (h' : Hart) where
    none-did : Advanced k h most made None k' h' → Did k h made k' h'
    none-did a = subst (λ (x : Kernel). Did k h made x h') (sym a.ends.1) (subst (λ (y : Hart). Did k h made a.kernel y) (sym a.ends.2) a.did)

    pub none-frames : Advanced k h most made None k' h' → frame_count k' ≡ frame_count k
    none-frames a = (none-did a).frames

    pub none-run : Advanced k h most made None k' h' → IsPromised (world_of k h None) (runs_made pid made None) (world_of k' h' None)
    none-run a = subst (λ p. IsPromised (world_of k h None) (replicate made (done_by p)) (world_of k' h' None)) (sym (current-pid k pid current).1) (none-did a).run

    -- something else came of the last one
    module _ (o : RunOutcome) (a : Advanced k h most made (Some o) k' h') where
      pub some-whole : IsWhole k' h'
      some-whole = a.ends.1.whole

      pub some-halted : IsHalted (state_of k' h') (turns_of k' (halted_by o)) (halted_by o)
      some-halted = run-halts a.kernel k' a.hart h' (pid_now a.kernel) o a.did.whole a.did.running a.did.first refl a.ends.1 a.ends.2

      pub some-frames : frame_count k' ≡ frame_count k
      some-frames = a.ends.1.frames ∙ a.did.frames

      pub some-end : IsEnd most made (Some o)
      some-end = (a.ends.0, a.ends.3, λ e. step-runs (sym a.ends.2 ∙ e), λ e. step-is-on (sym a.ends.2 ∙ e))

      pub some-run : IsPromised (world_of k h None) (runs_made pid made (Some o)) (world_of k' h' (halted_by o))
      some-run =
          let one : Promised (world_of a.kernel a.hart None) Run (run_outcome_of o) (world_of k' h' (halted_by o)) =
          run-step a.kernel k' a.hart h' (pid_now a.kernel) o a.did.whole a.did.running refl a.ends.1 a.ends.2 in
          let before : IsPromised (world_of k h None) (replicate made (done_by pid)) (world_of a.kernel a.hart None) =
          subst (λ p. IsPromised (world_of k h None) (replicate made (done_by p)) (world_of a.kernel a.hart None)) (sym (current-pid k pid current).1) a.did.run in
          promised_runs_join (world_of k h None) (world_of a.kernel a.hart None) (world_of k' h' (halted_by o)) (replicate made (done_by pid))
          ((Run, run_outcome_of o) ∷ []) before (world_of k' h' (halted_by o), one, refl)

-- the same from where the machine stood
pub now-ran : (k : Kernel) (h : Hart) (halted : Option ℤ) (trace : Buffer Note) (now : Meaning)
    (is : meaning_of (record { kernel = k; hart = h; halted = halted; trace = trace }) ≡ now) (list : Steps) (w : World) → halted ≡ None
    → IsPromised (world_of k h None) list w → IsPromised now.world list w
now-ran k h halted trace now is list w none run =
    subst (λ (m : Meaning). IsPromised m.world list w) is (subst (λ s. IsPromised (world_of k h s) list w) (sym none) run)
