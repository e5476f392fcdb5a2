use Rattle.std.proofs.Common.{◌∙◌, ◌++◌, ℕ, List, ap, append_assoc}
use Rattle.std.proofs.lemmas.Result.{on_ok_weaker}
use Rattle.std.specs.String.{string_bytes}
use Rattle.trace_picture.specs.Svg.{size_text, svg_begin}
use Rattle.trace_picture.proofs.picture.push_opened.Goals as goal

pub returns : goal.returns
returns c =
    let r1 = (size_text c.args.width c.args.height) in
    on_ok_weaker c.push_size.result
    (λ q. q
    ∙ ap (λ (z : List ℕ). z ++ r1) c.in_ok-push.ensures ∙ append_assoc (string_bytes c.args.text.now) svg_begin r1) c.push_size.ensures
