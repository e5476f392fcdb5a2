use Rattle.std.proofs.Common.{◌∙◌, [], ap, sym}
use Rattle.std.proofs.lemmas.Result.{IfOk-weaker}
use Rattle.kernel_spec.specs.runs.Rounds.{events}
use Rattle.xv_session.specs.Recorded.{Recorded}
use Rattle.xv_live.specs.Asks.{led_by, led_if}
use Rattle.xv_live.proofs.Joined.{on-ok}
use Rattle.xv_live.proofs.Typed.{attends-led, attends-looks, attends-seen, attends-types, attends-join}
use Rattle.xv_live.proofs.attending.turn.Goals as goal

pub returns-in-Some-clause-attends : goal.returns-in-Some-clause-attends
returns-in-Some-clause-attends g c =
    attends-led (led_by c.in_ok-asked.asked) _ c.args.session.now _ _ _ _ _ _ _ (ap led_if (sym c.pause_for.ensures.is ∙ c.in-Some.is))
    (attends-looks _ c.args.session.now _ _ _ _ _ _ (ap (λ s. s.held) c.in_ok-asked.ensures.sink) c.in_ok-asked.ensures.looks)

pub returns-clause-attends : goal.returns-clause-attends
returns-clause-attends g c =
    IfOk-weaker c.pause_behind.result _ _ (λ p none. attends-led [] (led_if p) _ _ _ _ _ _ _ _ (sym none)
    (attends-join [] [] _ _ _ _ _ _ _ _ _ _ _ _
    (attends-led (led_by c.in_ok-asked.asked) [] c.args.session.now _ _ _ _ _ _ _ (ap led_if (sym c.pause_for.ensures.is ∙ c.in-None.is))
    (attends-looks _ c.args.session.now _ _ _ _ _ _ (ap (λ s. s.held) c.in_ok-asked.ensures.sink) c.in_ok-asked.ensures.looks))
    (attends-seen [] _ _ _ _ _ _ _ _ _ (ap (λ s. s.held) c.keep_record.ensures.sink)
    (attends-types _ _ _ _ _ _ _ _ (c.pause_behind.ensures.coming ∙ c.in_ok-go_on.ensures.coming) c.in_ok-go_on.ensures.types)))) c.pause_behind.ensures.led

pub returns-clause-kept : goal.returns-clause-kept
returns-clause-kept g c =
    let shown = c.in_ok-go_on.ensures.types.typed.shown in
    on-ok c.pause_behind.result (λ kept. c.keep_record.ensures.kept c.args.session.now.events (events shown.list) (ap (λ (s : Recorded). s.events) shown.kept) kept)
