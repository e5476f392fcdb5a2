use Rattle.std.proofs.Common.{◌∙◌, ◌++◌, ℕ, List, ap, append_assoc}
use Rattle.std.proofs.lemmas.Result.{on_ok_weaker}
use Rattle.std.specs.String.{string_bytes}
use Rattle.trace_picture.specs.Svg.{call_colours, tick_colours}
use Rattle.trace_picture.proofs.picture.push_mark_colours.Goals as goal

pub returns : goal.returns
returns c =
    let r1 = call_colours in
    on_ok_weaker c.push-2.result
    (λ q. q
    ∙ ap (λ (z : List ℕ). z ++ r1) c.in_ok-push.ensures ∙ append_assoc (string_bytes c.args.text.now) tick_colours r1) c.push-2.ensures
