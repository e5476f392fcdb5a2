use Rattle.std.proofs.Common.{◌∙◌, ◌++◌, ℕ, List, ap, append_assoc}
use Rattle.std.proofs.lemmas.Result.{on_ok_weaker}
use Rattle.std.specs.String.{string_bytes}
use Rattle.trace_picture.specs.Svg.{fault_word, mark_opened, mark_titled}
use Rattle.trace_picture.proofs.picture.push_mark.Goals as goal

pub returns : goal.returns
returns c =
    let r2 = (fault_word c.args.x.0 c.args.row c.args.mark) in
    let r1 = ((mark_titled c.args.mark) ++ r2) in
    on_ok_weaker c.push_fault_word.result
    (λ q. q
    ∙ ap (λ (z : List ℕ). z ++ r2) c.in_ok-push_mark_title.ensures ∙ append_assoc (string_bytes c.open_mark.new.text) (mark_titled c.args.mark) r2
    ∙ ap (λ (z : List ℕ). z ++ r1) c.in_ok-open_mark.ensures ∙ append_assoc (string_bytes c.args.text.now) (mark_opened c.args.x.0 c.args.row c.args.mark) r1) c.push_fault_word.ensures
