use Rattle.std.proofs.Common.{◌∙◌, ◌++◌, ◌<◌, ◌≤◌, ℕ, List, length, append-nil, append_assoc, ap, arith, flat_map, subst, sym, take, rules}
use Rattle.std.specs.String.{string_bytes}
use Rattle.std.proofs.lemmas.List.{take_all}
use Rattle.trace_picture.specs.Drawing.{Moves}
use Rattle.trace_picture.specs.Svg.{shape_text}
use Rattle.trace_picture.specs.declared.shape.Shape.{Shape}
use Rattle.trace_picture.proofs.Written.{moves-more, moves-none, one-more}
use Rattle.trace_picture.proofs.picture.put_shapes.Goals as goal

pub loop-shape-init : goal.loop-shape-init
loop-shape-init g c = subst (λ (z : List ℕ). Moves (g.W.Write.contents c.args.output.now) (g.W.Write.contents c.args.output.now) z (string_bytes c.args.part.now))
    (sym (append-nil (string_bytes c.args.part.now))) (moves-none (g.W.Write.contents c.args.output.now) (string_bytes c.args.part.now))

pub loop-shape-preserved : goal.loop-shape-preserved
loop-shape-preserved g c =
    let p = c.args.plan.now in
    let show = shape_text p.remarks.now p.axis.left p.axis.events p.bottom in
    let i = c.loop-shape.shape-index in
    subst (λ (z : List ℕ). Moves (g.W.Write.contents c.args.output.now) (g.W.Write.contents c.put_if_long.new.output) z (string_bytes c.put_if_long.new.part))
    (one-more show (string_bytes c.args.part.now) c.args.shapes.now i _ c.loop-shape-test.true (search rules))
    (moves-more _ _ _ _ _ _ _ _ c.loop-shape.invariant c.in_ok-push_shape.ensures c.in_ok-put_if_long.ensures)
