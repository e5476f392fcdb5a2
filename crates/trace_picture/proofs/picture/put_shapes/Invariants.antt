use Rattle.std.proofs.Common.{◌++◌, flat_map, take}
use Rattle.std.specs.String.{string_bytes}
use Rattle.trace_picture.specs.Drawing.{Moves}
use Rattle.trace_picture.specs.Svg.{shape_text}
use Rattle.trace_picture.proofs.picture.put_shapes.Given as goal

abbrev pub invariant-loop-shape : goal.invariant-loop-shape
invariant-loop-shape g l =
    Moves (g.W.Write.contents l.fn.output) (g.W.Write.contents l.output)
    (string_bytes l.fn.part ++ flat_map (shape_text l.plan.remarks.now l.plan.axis.left l.plan.axis.events l.plan.bottom) (take l.shape-index l.shapes)) (string_bytes l.part)
