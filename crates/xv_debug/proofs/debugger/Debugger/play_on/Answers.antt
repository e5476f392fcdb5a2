use Rattle.std.proofs.Common.{◌≡◌, ◌∙◌, ℕ, ap, inl, inr, min, string_bytes, subst, sym}
use Rattle.std.proofs.lemmas.Result.{IfErr-weaker, IfOk-weaker, on_ok_weaker}
use Rattle.debug_words.specs.declared.vocabulary.TheConstants.{EVENTS_MOST}
use Rattle.xv_debug.specs.AnswerText.{GoesOnTells}
use Rattle.xv_debug.specs.Effects.{GoesOn, events_to_ticks}
use Rattle.xv_debug.proofs.Along.{by-along, by-apart}
use Rattle.xv_debug.proofs.debugger.Debugger.play_on.Goals as goal

pub returns-then-has_ahead-clause-done : goal.returns-then-has_ahead-clause-done
returns-then-has_ahead-clause-done g c =
    let plan = c.args.self.now.plan in
    let old = c.args.session.now in
    let some = c.has_ahead.ensures.some c.if-has_ahead.true in
    let most : c.min-most.result ≡ min (events_to_ticks plan c.args.rounds old) EVENTS_MOST =
    rw (sym c.at.ensures, sym c.up_to_ticks-ahead.ensures) (c.min-most.ensures ∙ ap (λ (n : ℕ). min c.up_to_ticks-ahead.result n) c.from.ensures) in
    IfOk-weaker c.go_on_by.result _ _ (λ _ goes. by-along plan old some (subst (λ (n : ℕ). GoesOn g.P.Patience.may_end plan n old c.go_on_by.new.session) most goes)) c.go_on_by.ensures.done

pub returns-then-has_ahead-clause-told : goal.returns-then-has_ahead-clause-told
returns-then-has_ahead-clause-told g c =
    let plan = c.args.self.now.plan in
    let old = c.args.session.now in
    let some = c.has_ahead.ensures.some c.if-has_ahead.true in
    let most : c.min-most.result ≡ min (events_to_ticks plan c.args.rounds old) EVENTS_MOST =
    rw (sym c.at.ensures, sym c.up_to_ticks-ahead.ensures) (c.min-most.ensures ∙ ap (λ (n : ℕ). min c.up_to_ticks-ahead.result n) c.from.ensures) in
    let before = string_bytes c.args.answer.now in
    let after = string_bytes c.go_on_by.new.answer in
    on_ok_weaker c.go_on_by.result
    (λ tells. by-along plan old some (subst (λ (n : ℕ). GoesOnTells g.P.Patience.may_end plan c.args.word.now n old c.go_on_by.new.session before after) most tells)) c.go_on_by.ensures.told

pub returns-then-has_ahead-clause-failed : goal.returns-then-has_ahead-clause-failed
returns-then-has_ahead-clause-failed g c =
    let plan = c.args.self.now.plan in
    let old = c.args.session.now in
    let some = c.has_ahead.ensures.some c.if-has_ahead.true in
    let most : c.min-most.result ≡ min (events_to_ticks plan c.args.rounds old) EVENTS_MOST =
    rw (sym c.at.ensures, sym c.up_to_ticks-ahead.ensures) (c.min-most.ensures ∙ ap (λ (n : ℕ). min c.up_to_ticks-ahead.result n) c.from.ensures) in
    IfErr-weaker c.go_on_by.result _ _
    (λ _ does. elim does [
      | inl same ↦ inl same
      | inr goes ↦ inr (by-along plan old some (subst (λ (n : ℕ). GoesOn g.P.Patience.may_end plan n old c.go_on_by.new.session) most goes))
    ]) c.go_on_by.ensures.failed

pub returns-clause-done : goal.returns-clause-done
returns-clause-done g c =
    IfOk-weaker c.play.result _ _ (λ _ plays. by-apart c.args.self.now.plan c.args.session.now (c.has_ahead.ensures.none c.if-has_ahead.false) plays) c.play.ensures.done

pub returns-clause-told : goal.returns-clause-told
returns-clause-told g c = on_ok_weaker c.play.result (λ tells. by-apart c.args.self.now.plan c.args.session.now (c.has_ahead.ensures.none c.if-has_ahead.false) tells) c.play.ensures.told

pub returns-clause-failed : goal.returns-clause-failed
returns-clause-failed g c =
    IfErr-weaker c.play.result _ _
    (λ _ does. elim does [
      | inl same ↦ inl same
      | inr plays ↦ inr (by-apart c.args.self.now.plan c.args.session.now (c.has_ahead.ensures.none c.if-has_ahead.false) plays)
    ]) c.play.ensures.failed
