use Rattle.std.proofs.Common.{◌∙◌, sym}
use Rattle.xv_machine.specs.Events.{event_of, outcome_of}
use Rattle.call_reasons.proofs.Steps.{none-refused, reason-refused}
use Rattle.call_reasons.proofs.last.reason_by.Goals as goal

pub returns-then-is_refusal : goal.returns-then-is_refusal
returns-then-is_refusal c =
    reason-refused c.args.machine.now c.event-outcome.new.self (event_of c.args.event) (outcome_of c.event-outcome.result) c.args.pid c.reason_asked-reason.result
    c.event-outcome.ensures c.reason_asked-reason.ensures (sym c.is_refusal.ensures ∙ c.if-is_refusal.true)

pub returns-else-is_refusal : goal.returns-else-is_refusal
returns-else-is_refusal c =
    none-refused c.args.machine.now c.event-outcome.new.self (event_of c.args.event) (outcome_of c.event-outcome.result) c.args.pid
    c.event-outcome.ensures (sym c.is_refusal.ensures ∙ c.if-is_refusal.false)
