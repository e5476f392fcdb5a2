use Rattle.trace_picture.proofs.Drawn.{phase-left, more-drawn}
use Rattle.trace_picture.proofs.shape.draw_bar.Goals as goal

pub loop-phase-preserved : goal.loop-phase-preserved
loop-phase-preserved g c =
    rw c.behind-first.ensures (more-drawn _ _ _ _ _ _ _ c.loop-phase.invariant
    (phase-left c.args.row c.args.pid c.loop-phase.first c.args.phases.now c.loop-phase.phase-index _ c.loop-phase-test.true) c.in_ok-draw_phase.ensures)
