use Rattle.std.proofs.Common.{drop}
use Rattle.trace_picture.specs.Shapes.{all_at, row_shapes}
use Rattle.trace_picture.proofs.Drawn.{IsDrawnUpTo}
use Rattle.trace_picture.proofs.shape.draw_rows.Given as goal

abbrev pub invariant-loop-place : goal.invariant-loop-place
invariant-loop-place g l = IsDrawnUpTo (g.C.Canvas.drawn l.fn.canvas) (g.C.Canvas.drawn l.canvas) (all_at row_shapes l.place (drop l.place l.rows)) (all_at row_shapes 0 l.rows)
