use Rattle.std.proofs.Common.{drop}
use Rattle.trace_picture.specs.Shapes.{bars}
use Rattle.trace_picture.proofs.Drawn.{IsDrawnUpTo}
use Rattle.trace_picture.proofs.shape.draw_bar.Given as goal

abbrev pub invariant-loop-phase : goal.invariant-loop-phase
invariant-loop-phase g l = IsDrawnUpTo (g.C.Canvas.drawn l.fn.canvas) (g.C.Canvas.drawn l.canvas) (bars l.row l.pid l.first (drop l.phase-index l.phases)) (bars l.row l.pid 0 l.phases)
