use Rattle.std.proofs.Common.{◌∙◌, [], OnOk, ap, string_bytes, subst}
use Rattle.xv_machine.specs.Meaning.{Meaning}
use Rattle.xv_debug.specs.AnswerText.{SearchTells}
use Rattle.xv_debug.specs.motion.Aims.{aim_in}
use Rattle.xv_debug.specs.motion.Reaching.{met_from}
use Rattle.xv_debug.specs.declared.motion.aiming.Aim.{Aim}
use Rattle.xv_debug.proofs.debugger.Debugger.next.Goals as goal

pub returns-clause-told : goal.returns-clause-told
returns-clause-told g c =
    subst (λ (aim : Aim).
    OnOk c.search.result (SearchTells g.P.Patience.may_end c.args.self.now.plan c.args.word.now (met_from c.args.session.now aim []) c.args.session.now c.search.new.session
    (string_bytes c.args.answer.now) (string_bytes c.search.new.answer)))
    (c.aim_in-aim.ensures ∙ ap (λ (m : Meaning). aim_in m.world) c.machine.ensures.machine) c.search.ensures.told
