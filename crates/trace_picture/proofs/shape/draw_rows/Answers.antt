use Rattle.std.proofs.Common.{◌∙◌, ◌+◌, ◌++◌, ap, drop, sym}
use Rattle.trace_picture.specs.Shapes.{all_at, row_shapes}
use Rattle.trace_picture.specs.declared.chart.Row.{Row}
use Rattle.trace_picture.proofs.Drawn.{item-left, more-drawn}
use Rattle.trace_picture.proofs.shape.draw_rows.Goals as goal

pub loop-place-preserved : goal.loop-place-preserved
loop-place-preserved g c =
    let rows = c.args.rows.now in
    let place = c.loop-place.place in
    let row = c.index-rows-place in
    more-drawn _ _ _ (row_shapes place row.result) _ _ _ c.loop-place.invariant
    (item-left row_shapes rows place row.result c.loop-place-test.true
    ∙ ap (λ (r : Row). row_shapes place r ++ all_at row_shapes (place + 1) (drop (place + 1) rows)) (sym row.is)) c.in_ok-draw_row.ensures
