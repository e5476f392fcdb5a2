use Rattle.std.proofs.Common.{◌≡◌, true, ap, subst, sym}
use Rattle.std.proofs.Math.Logic.{∥∥₁_map}
use Rattle.xv_machine.specs.Events.{event_of, outcome_of}
use Rattle.xv_session.specs.Recorded.{Recorded}
use Rattle.xv_machine.proofs.Refused.{if-err}
use Rattle.reported_run.specs.Known.{IsKnown, known_of}
use Rattle.reported_run.specs.declared.ends.Ends.{Ends}
use Rattle.reported_run.proofs.Learned.{known-event}
use Rattle.reported_run.proofs.watching.Watched.send.Goals as goal

pub invariant_of-self : goal.invariant_of-self
invariant_of-self g c =
    let before = c.args.self.now in
    record {
      known = ∥∥₁_map before.known (λ k whole. subst (λ (s : Recorded). IsKnown s (known_of before.teller.ends)) (sym c.in_err-outcome.ensures.refused) (k whole));
    }

pub invariant_of-self-2 : goal.invariant_of-self-2
invariant_of-self-2 g c =
    let before = c.args.self.now in
    record {
      known = ∥∥₁_map before.known (λ k. subst (λ (ends : Ends). ends.complete ≡ true → IsKnown c.send.new.self (known_of ends)) (sym c.tell_event.ensures.ends)
          (known-event (event_of c.args.event) (outcome_of c.in_ok-outcome.outcome) before.session c.send.new.self before.teller.ends.complete (known_of before.teller.ends)
          c.requires c.in_ok-outcome.ensures.sent k));
    }

pub returns-clause-sent : goal.returns-clause-sent
returns-clause-sent g c = c.in_ok-outcome.ensures.sent.0.event

pub returns-in_err-outcome-clause-refused : goal.returns-in_err-outcome-clause-refused
returns-in_err-outcome-clause-refused g c = if-err c.from_residual.result (ap (λ (s : Recorded). s.machine) c.in_err-outcome.ensures.refused)
