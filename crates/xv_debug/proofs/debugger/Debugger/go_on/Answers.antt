use Rattle.std.proofs.Common.{List, OnOk, string_bytes, subst}
use Rattle.xv_session.specs.declared.until.Condition.TheVariants.{Fault}
use Rattle.debug_words.specs.declared.vocabulary.Mark.{Mark}
use Rattle.xv_debug.specs.AnswerText.{SearchTells}
use Rattle.xv_debug.specs.motion.Reaching.{met_from}
use Rattle.xv_debug.specs.declared.motion.aiming.Aim.TheVariants.{On}
use Rattle.xv_debug.proofs.debugger.Debugger.go_on.Goals as goal

pub returns-clause-told : goal.returns-clause-told
returns-clause-told g c =
    subst (λ (marks : List Mark).
    OnOk c.search.result (SearchTells g.P.Patience.may_end c.args.self.now.plan c.args.word.now (met_from c.args.session.now (On Fault) marks) c.args.session.now c.search.new.session
    (string_bytes c.args.answer.now) (string_bytes c.search.new.answer)))
    c.as_slice.ensures.value c.search.ensures.told
