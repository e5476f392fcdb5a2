use Rattle.trace_picture.specs.Shapes.{event_shapes}
use Rattle.trace_picture.proofs.Drawn.{item-left, more-drawn}
use Rattle.trace_picture.proofs.shape.draw_events.Goals as goal

pub loop-event-preserved : goal.loop-event-preserved
loop-event-preserved g c =
    more-drawn _ _ _ _ _ _ _ c.loop-event.invariant (item-left (event_shapes c.args.chart.now) c.args.notes.now c.loop-event.event _ c.loop-event-test.true) c.in_ok-draw_event.ensures
