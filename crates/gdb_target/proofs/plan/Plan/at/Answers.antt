use Rattle.std.proofs.Common.{◌≡◌, ◌∙◌, ◌+◌, ◌-◌, ◌≤◌, ap, subst, arith, length}
use Rattle.xv_machine.specs.Events.{event_of}
use Rattle.gdb_target.specs.Plan.{Planned, planned_at}
use Rattle.gdb_target.specs.Rounds.{event_at}
use Rattle.gdb_target.proofs.Planned.{past-record}
use Rattle.gdb_target.proofs.plan.Plan.at.Goals as goal

pub returns-clause-equal : goal.returns-clause-equal
returns-clause-equal c = λ k h.
    let p = c.self.inside in
    let plan : Planned = record { recorded = p.recording; keys = p.rounds.keys.items; quantum = p.rounds.quantum } in
    let place = c.args.place + k in
    let past : length plan.recorded ≤ place = omega (arith, c.if-place-recorded.false, c.len-recorded.ensures) in
    let same : place - length plan.recorded ≡ c.args.place - c.len-recorded.result + k = omega (arith, c.if-place-recorded.false, c.len-recorded.ensures) in
    subst (λ (x : Planned). planned_at x place ≡ event_of c.at.result.event) c.self.view_is
    (past-record plan place past ∙ ap (event_at plan.keys plan.quantum) same ∙ c.at.ensures.equal k h)
