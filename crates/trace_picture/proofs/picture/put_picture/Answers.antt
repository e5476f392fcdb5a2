use Rattle.std.proofs.Common.{◌∙◌, ◌++◌, ℕ, List, ap, append_assoc, flat_map, subst, sym}
use Rattle.std.proofs.lemmas.Result.{on_ok_weaker}
use Rattle.std.specs.Io.KnownBytes.{Appends}
use Rattle.std.specs.String.{string_bytes}
use Rattle.trace_picture.specs.Svg.{begin_text, end_text, shape_text}
use Rattle.trace_picture.proofs.Written.{moves-end}
use Rattle.trace_picture.proofs.picture.put_picture.Goals as goal

pub returns : goal.returns
returns g c =
    let p = c.args.plan.now in
    let shown = flat_map (shape_text p.remarks.now p.axis.left p.axis.events p.bottom) c.args.shapes.now in
    let below = end_text c.args.chart.now p.axis.left p.bottom in
    on_ok_weaker c.put.result
    (λ wrote. subst (λ (z : List ℕ). Appends (g.W.Write.contents c.args.output.now) (g.W.Write.contents c.put.new.output) z)
    (ap (λ (z : List ℕ). (z ++ shown) ++ below) (c.in_ok-push_begin.ensures ∙ ap (λ (z : List ℕ). z ++ begin_text p.axis.left p.bottom) c.new-part.ensures.bytes)
    ∙ append_assoc (begin_text p.axis.left p.bottom) shown below)
    (moves-end _ _ _ _ _ _ _ c.in_ok-put_shapes.ensures c.in_ok-push_end.ensures wrote)) c.put.ensures.written
