use Rattle.std.proofs.Common.{◌∙◌, ◌++◌, ℕ, List, ap, append_assoc}
use Rattle.std.proofs.lemmas.Result.{on_ok_weaker}
use Rattle.std.specs.String.{string_bytes}
use Rattle.trace_picture.specs.Svg.{bar_title, part_opened}
use Rattle.trace_picture.proofs.picture.push_bar.Goals as goal

pub returns : goal.returns
returns c =
    let p = c.args.plan.now in
    let b = c.args.bar in
    let r1 = (bar_title p.remarks.now b.pid b.first b.behind b.state) in
    on_ok_weaker c.push_title.result
    (λ q. q
    ∙ ap (λ (z : List ℕ). z ++ r1) c.in_ok-open_part.ensures
    ∙ append_assoc (string_bytes c.args.text.now) (part_opened p.axis.left p.axis.events c.args.row b.first b.behind b.state) r1) c.push_title.ensures
