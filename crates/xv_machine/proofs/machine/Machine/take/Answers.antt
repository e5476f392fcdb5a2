use Rattle.std.proofs.Common.{sym, ap, subst}
use Rattle.kernel_spec.specs.runs.Run as runs
use Rattle.kernel_spec.specs.waking.Wakes.{Promised}
use Rattle.xv_machine.specs.Events.{event_of, outcome_of}
use Rattle.xv_machine.proofs.machine.Machine.take.Goals as goal

pub returns-in-Run-clause-promised : goal.returns-in-Run-clause-promised
returns-in-Run-clause-promised c =
    let before = c.args.self.now.world in
    let after = c.run_once.new.self.world in
    subst (λ (e : runs.Event). Promised before e (outcome_of c.as_outcome.result) after) (sym (ap event_of c.in-Run.is))
    (subst (λ (o : runs.Outcome). Promised before runs.Run o after) (sym c.as_outcome.ensures) c.run_once.ensures.promised)
