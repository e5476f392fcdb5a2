use Rattle.xv_machine.specs.Events.{event_of, outcome_of}
use Rattle.xv_debug.specs.motion.Ways.{test_of}
use Rattle.xv_debug.proofs.Along.{far-sent}
use Rattle.xv_debug.proofs.Searched.{goes-apart}
use Rattle.xv_debug.proofs.motion.searching.send_apart.Goals as goal

pub returns-clause-goes : goal.returns-clause-goes
returns-clause-goes c =
    let way = c.args.way.now in
    let e = event_of c.args.event in
    let old = c.args.session.now in
    let sent = c.in_ok-outcome.ensures in
    goes-apart way.plan.now (test_of way) e (outcome_of c.in_ok-outcome.outcome) old c.send_one.new.session c.args.output.now c.send_one.new.output
    c.requires.apart c.requires.next sent.sent sent.shown

pub returns-clause-far : goal.returns-clause-far
returns-clause-far c =
    far-sent c.args.way.now.plan.now c.args.far c.far_by.result (event_of c.args.event) (outcome_of c.in_ok-outcome.outcome) c.args.session.now c.send_one.new.session
    c.requires.here c.requires.next c.in_ok-outcome.ensures.sent c.far_by.ensures.round c.far_by.ensures.along
