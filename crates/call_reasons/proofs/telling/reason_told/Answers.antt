use Rattle.std.proofs.Common.{◌≡◌, ◌∙◌, true, false, sym, ap, w64}
use Rattle.std.specs.Ordering.{int_eq}
use Rattle.std.proofs.lemmas.Bool.Decides.{Decides-int_eq}
use Rattle.std.proofs.lemmas.Int.{to_z-of_z}
use Rattle.kernel_spec.specs.views.Words.{minus_one}
use Rattle.call_reasons.specs.Shown.{reason_in}
use Rattle.call_reasons.proofs.ByCall.{none_of_other}
use Rattle.call_reasons.proofs.telling.reason_told.Goals as goal

pub returns-then-is_refused : goal.returns-then-is_refused
returns-then-is_refused c =
    let s = c.args.machine.now.world.state in
    let tested : int_eq c.args.value minus_one ≡ true =
    sym (c.is_refused.ensures ∙ ap (λ z. int_eq z minus_one) (to_z-of_z w64 c.args.value c.ranges.value)) ∙ c.if-is_refused.true in
    c.reason_of_refused.ensures ∙ ap (reason_in s c.args.pid c.args.call.now) (sym ((Decides-int_eq c.args.value minus_one).0 tested))

pub returns-else-is_refused : goal.returns-else-is_refused
returns-else-is_refused c =
    let tested : int_eq c.args.value minus_one ≡ false =
    sym (c.is_refused.ensures ∙ ap (λ z. int_eq z minus_one) (to_z-of_z w64 c.args.value c.ranges.value)) ∙ c.if-is_refused.false in
    none_of_other c.args.machine.now.world.state c.args.pid c.args.call.now c.args.value tested
