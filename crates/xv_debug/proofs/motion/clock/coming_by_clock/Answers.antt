use Rattle.std.proofs.Common.{◌∙◌, subst, sym}
use Rattle.xv_machine.specs.Events.{event_of}
use Rattle.xv_machine.specs.Meaning.{Meaning}
use Rattle.xv_debug.specs.motion.Clock.{IsByClock}
use Rattle.xv_debug.specs.motion.Resting.{RestsQuiet}
use Rattle.xv_debug.proofs.Along.{clock-comes-other, clock-comes-runs, clock-rests}
use Rattle.xv_debug.proofs.motion.clock.coming_by_clock.Goals as goal

pub returns-then-is_run-clause-comes : goal.returns-then-is_run-clause-comes
returns-then-is_run-clause-comes c =
    let next = subst (λ (m : Meaning). IsByClock c.args.plan.now c.args.round m.world (event_of c.in-Ok.event)) c.machine.ensures.machine c.in-Ok.ensures.next in
    clock-comes-runs c.args.plan.now c.args.session.now.events c.args.session.now.machine.world c.args.round c.in-Ok.event c.requires.round c.requires.apart
    (sym c.is_run.ensures ∙ c.if-is_run.true) next

pub returns-else-is_run-clause-comes : goal.returns-else-is_run-clause-comes
returns-else-is_run-clause-comes c =
    let next = subst (λ (m : Meaning). IsByClock c.args.plan.now c.args.round m.world (event_of c.in-Ok.event)) c.machine.ensures.machine c.in-Ok.ensures.next in
    clock-comes-other c.args.plan.now c.args.session.now.events c.args.session.now.machine.world c.args.round c.in-Ok.event c.requires.round c.requires.apart
    (sym c.is_run.ensures ∙ c.if-is_run.false) next

pub returns-in-Err-clause-rests : goal.returns-in-Err-clause-rests
returns-in-Err-clause-rests c =
    let rests = subst (λ (m : Meaning). RestsQuiet c.args.plan.now c.args.round c.in-Err.stop m.world) c.machine.ensures.machine c.in-Err.ensures.rests in
    clock-rests c.args.plan.now c.args.session.now.events c.in-Err.stop c.args.session.now.machine.world c.args.round c.requires.round c.requires.apart rests
