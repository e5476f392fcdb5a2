use Rattle.std.proofs.Common.{drop}
use Rattle.trace_picture.specs.Shapes.{all_at, event_shapes}
use Rattle.trace_picture.proofs.Drawn.{IsDrawnUpTo}
use Rattle.trace_picture.proofs.shape.draw_events.Given as goal

abbrev pub invariant-loop-event : goal.invariant-loop-event
invariant-loop-event g l =
    IsDrawnUpTo (g.C.Canvas.drawn l.fn.canvas) (g.C.Canvas.drawn l.canvas) (all_at (event_shapes l.chart) l.event (drop l.event l.notes)) (all_at (event_shapes l.chart) 0 l.notes)
