use Rattle.std.proofs.Common.{◌∙◌, ◌++◌, ℕ, List, ap, append_assoc}
use Rattle.std.proofs.lemmas.Result.{on_ok_weaker}
use Rattle.std.specs.String.{string_bytes}
use Rattle.trace_picture.specs.Svg.{bar_colours, mark_colours, style_begin, style_end}
use Rattle.trace_picture.proofs.picture.push_style.Goals as goal

pub returns : goal.returns
returns c =
    let r3 = style_end in
    let r2 = (mark_colours ++ r3) in
    let r1 = (bar_colours ++ r2) in
    on_ok_weaker c.push-2.result
    (λ q. q
    ∙ ap (λ (z : List ℕ). z ++ r3) c.in_ok-push_mark_colours.ensures ∙ append_assoc (string_bytes c.push_bar_colours.new.text) mark_colours r3
    ∙ ap (λ (z : List ℕ). z ++ r2) c.in_ok-push_bar_colours.ensures ∙ append_assoc (string_bytes c.push.new.text) bar_colours r2
    ∙ ap (λ (z : List ℕ). z ++ r1) c.in_ok-push.ensures ∙ append_assoc (string_bytes c.args.text.now) style_begin r1) c.push-2.ensures
