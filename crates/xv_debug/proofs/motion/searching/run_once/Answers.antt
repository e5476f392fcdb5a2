use Rattle.std.proofs.Common.{◌&&◌, ◌||◌, ◌∙◌, Bool, ap₂, not, sym}
use Rattle.kernel_spec.specs.runs.Run.{Run}
use Rattle.xv_machine.specs.Events.{outcome_of}
use Rattle.xv_session.specs.Recorded.{running_of}
use Rattle.xv_debug.specs.motion.Aims as aims
use Rattle.xv_debug.specs.motion.Marks as marked
use Rattle.xv_debug.specs.motion.Reaching.{is_turn_of}
use Rattle.xv_debug.specs.motion.Ways.{test_of}
use Rattle.xv_debug.proofs.Along.{far-sent}
use Rattle.xv_debug.proofs.Searched.{goes-run}
use Rattle.xv_debug.proofs.motion.searching.run_once.Goals as goal

pub returns-clause-goes : goal.returns-clause-goes
returns-clause-goes c =
    let way = c.args.way.now in
    let old = c.args.session.now in
    let o = outcome_of c.in_ok-outcome.outcome in
    let new = c.send_one.new.session in
    let due = c.due_now-due.ensures in
    goes-run way.plan.now (test_of way) c.is_one-met.result o old new c.args.output.now c.send_one.new.output
    c.requires.next c.in_ok-outcome.ensures.sent c.in_ok-outcome.ensures.shown
    (ap₂ (λ (x y : Bool). not (is_turn_of way.ran o) && (aims.meets_with way.aim.now x o new.machine || marked.meets_with way.marks.now y o (running_of new))) (sym due.aim) (sym due.mark)
    ∙ sym c.is_one-met.ensures)

pub returns-clause-far : goal.returns-clause-far
returns-clause-far c =
    far-sent c.args.way.now.plan.now c.args.far c.far_by.result Run (outcome_of c.in_ok-outcome.outcome) c.args.session.now c.send_one.new.session
    c.requires.here c.requires.next c.in_ok-outcome.ensures.sent c.far_by.ensures.round c.far_by.ensures.along
