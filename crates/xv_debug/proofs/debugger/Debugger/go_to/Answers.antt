use Rattle.std.proofs.Common.{◌≡◌, ◌<◌, ◌-◌, ℕ, arith, length, min, string_bytes, subst}
use Rattle.std.proofs.lemmas.Result.{on_ok_weaker}
use Rattle.debug_words.specs.declared.vocabulary.TheConstants.{EVENTS_MOST}
use Rattle.xv_debug.specs.AnswerText.{GoesOnTells}
use Rattle.xv_debug.proofs.debugger.Debugger.go_to.Goals as goal

pub returns-then-at-place-clause-told : goal.returns-then-at-place-clause-told
returns-then-at-place-clause-told g c =
    let plan = c.args.self.now.plan in
    let old = c.args.session.now in
    let before = string_bytes c.args.answer.now in
    let after = string_bytes c.go_on_by.new.answer in
    let further : length old.events < c.args.place = subst (λ (n : ℕ). n < c.args.place) c.at-at.ensures c.if-at-place.true in
    let most : c.min-most.result ≡ min (c.args.place - length old.events) EVENTS_MOST = omega (arith, c.min-most.ensures, c.from.ensures, c.at-at.ensures) in
    on_ok_weaker c.go_on_by.result
    (λ tells. record {
      back = λ le. let never : ⊥ = omega (arith, le, further) in absurd never;
      ahead = λ _. subst (λ (n : ℕ). GoesOnTells g.P.Patience.may_end plan c.args.word.now n old c.go_on_by.new.session before after) most tells;
    }) c.go_on_by.ensures.told
