use Rattle.std.proofs.Common.{sym, ◌∙◌, None, subst, rules}
use Rattle.kernel_spec.specs.runs.Run as runs
use Rattle.kcall_core.specs.Machine.{world_of}
use Rattle.kernel_spec.specs.waking.Wakes.{Promised}
use Rattle.xv_machine.specs.declared.event.RunOutcome.{RunOutcome}
use Rattle.xv_machine.specs.Events.{run_outcome_of, halted_by}
use Rattle.xv_machine.proofs.Runs.{current-pid, not-halted, count-is, now-frames, now-promised, run-step, run-ends, stepped-keeps}
use Rattle.xv_machine.proofs.machine.Machine.run_once.Goals as goal

pub step-outcome-requires-clause-running : goal.step-outcome-requires-clause-running
step-outcome-requires-clause-running c = (current-pid c.self.inside.kernel c.in-Some.pid (sym (c.current.ensures None) ∙ c.in-Some.is)).0

pub step-outcome-requires-clause-pid : goal.step-outcome-requires-clause-pid
step-outcome-requires-clause-pid c = (current-pid c.self.inside.kernel c.in-Some.pid (sym (c.current.ensures None) ∙ c.in-Some.is)).1

-- an instruction that is done: the machine wasn't halted before, and the status stays
pub invariant_of-self : goal.invariant_of-self
invariant_of-self c =
    let i = c.self.inside in
    record {
      whole = c.step-outcome.ensures.made.whole;
      halted = run-ends i.kernel c.step-outcome.new.kernel i.hart c.step-outcome.new.hart i.halted i.halted c.in-Some.pid c.step-outcome.result
          c.self.invariant.whole (sym (c.current.ensures None) ∙ c.in-Some.is) c.self.invariant.halted
          c.step-outcome.ensures.made c.step-outcome.ensures.answer
          (stepped-keeps i.kernel i.hart i.halted c.in-Some.pid c.in-Stepped.done c.step-outcome.result c.in-Stepped.is
          (sym (c.current.ensures None) ∙ c.in-Some.is) c.self.invariant.halted);
      kept = c.self.invariant.kept;
    }

pub returns-in-Stepped-clause-promised : goal.returns-in-Stepped-clause-promised
returns-in-Stepped-clause-promised c =
    let i = c.self.inside in
    let current = sym (c.current.ensures None) ∙ c.in-Some.is in
    let now = current-pid i.kernel c.in-Some.pid current in
    subst (λ (o : RunOutcome). Promised c.args.self.now.world runs.Run (run_outcome_of o) (world_of c.step-outcome.new.kernel c.step-outcome.new.hart i.halted)) c.in-Stepped.is
    (now-promised i.kernel i.hart i.halted i.trace c.args.self.now c.self.view_is runs.Run c.step-outcome.new.kernel c.step-outcome.new.hart
    (halted_by c.step-outcome.result) (run_outcome_of c.step-outcome.result) i.halted
    (not-halted i.kernel i.hart i.halted c.self.invariant.halted now.0)
    (stepped-keeps i.kernel i.hart i.halted c.in-Some.pid c.in-Stepped.done c.step-outcome.result c.in-Stepped.is current c.self.invariant.halted)
    (run-step i.kernel c.step-outcome.new.kernel i.hart c.step-outcome.new.hart c.in-Some.pid c.step-outcome.result c.self.invariant.whole now.0
    now.1 c.step-outcome.ensures.made c.step-outcome.ensures.answer))

pub returns-in-Stepped-clause-frames : goal.returns-in-Stepped-clause-frames
returns-in-Stepped-clause-frames c = count-is c.step-outcome.new.kernel ∙ c.step-outcome.ensures.made.frames
    ∙ now-frames c.self.inside.kernel c.self.inside.hart c.self.inside.halted c.self.inside.trace c.args.self.now c.self.view_is

pub invariant_of-self-2 : goal.invariant_of-self-2
invariant_of-self-2 c =
    let i = c.self.inside in
    record {
      whole = c.step-outcome.ensures.made.whole;
      halted = run-ends i.kernel c.step-outcome.new.kernel i.hart c.step-outcome.new.hart i.halted c.halted_by-self-inside.result c.in-Some.pid
          c.step-outcome.result c.self.invariant.whole (sym (c.current.ensures None) ∙ c.in-Some.is) c.self.invariant.halted
          c.step-outcome.ensures.made c.step-outcome.ensures.answer c.halted_by-self-inside.ensures;
      kept = c.self.invariant.kept;
    }

pub returns-clause-promised : goal.returns-clause-promised
returns-clause-promised c =
    let i = c.self.inside in
    let now = current-pid i.kernel c.in-Some.pid (sym (c.current.ensures None) ∙ c.in-Some.is) in
    now-promised i.kernel i.hart i.halted i.trace c.args.self.now c.self.view_is runs.Run c.step-outcome.new.kernel c.step-outcome.new.hart
    (halted_by c.step-outcome.result) (run_outcome_of c.step-outcome.result) c.halted_by-self-inside.result
    (not-halted i.kernel i.hart i.halted c.self.invariant.halted now.0) c.halted_by-self-inside.ensures
    (run-step i.kernel c.step-outcome.new.kernel i.hart c.step-outcome.new.hart c.in-Some.pid c.step-outcome.result c.self.invariant.whole now.0
    now.1 c.step-outcome.ensures.made c.step-outcome.ensures.answer)

pub returns-clause-frames : goal.returns-clause-frames
returns-clause-frames c = count-is c.step-outcome.new.kernel ∙ c.step-outcome.ensures.made.frames
    ∙ now-frames c.self.inside.kernel c.self.inside.hart c.self.inside.halted c.self.inside.trace c.args.self.now c.self.view_is

pub returns-in_default-clause-promised : goal.returns-in_default-clause-promised
returns-in_default-clause-promised c = search rules
