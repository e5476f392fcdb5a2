use Rattle.std.proofs.Common.{OnOk, [], false, length, map, replicate, string_bytes, subst, sym, take}
use Rattle.kernel_spec.specs.runs.Run as runs
use Rattle.debug_words.specs.declared.vocabulary.Word.{Word}
use Rattle.xv_debug.specs.motion.Aims.{aim_in}
use Rattle.xv_debug.specs.motion.Reaching.{met_from}
use Rattle.xv_debug.specs.declared.motion.aiming.Aim.TheVariants.{On}
use Rattle.xv_session.specs.declared.until.Condition.TheVariants.{Fault}
use Rattle.xv_debug.specs.AnswerText.{Answers, FinishTells, GoalTells, GotoTells, PlaysOnTell, SearchTells, SendsTell, StepsOnTell}
use Rattle.xv_debug.proofs.debugger.Debugger.act.Goals as goal

pub returns-in-Step-clause-told : goal.returns-in-Step-clause-told
returns-in-Step-clause-told g c =
    let q = c.args.self.now.plan in
    let old = c.args.session.now in
    let new = c.step_on.new.session in
    let before = string_bytes c.args.answer.now in
    let after = string_bytes c.step_on.new.answer in
    subst (λ (w : Word). OnOk c.step_on.result (Answers c.args.self.now.sources g.P.Patience.may_end q c.args.self.now.shown w old new before after)) (sym c.in-Step.is)
    (subst (λ (w : Word). OnOk c.step_on.result (StepsOnTell g.P.Patience.may_end q w c.in-Step.count old new before after)) c.in-Step.is c.step_on.ensures.told)

pub returns-in-Next-clause-told : goal.returns-in-Next-clause-told
returns-in-Next-clause-told g c =
    let q = c.args.self.now.plan in
    let old = c.args.session.now in
    let new = c.next.new.session in
    let before = string_bytes c.args.answer.now in
    let after = string_bytes c.next.new.answer in
    subst (λ (w : Word). OnOk c.next.result (Answers c.args.self.now.sources g.P.Patience.may_end q c.args.self.now.shown w old new before after)) (sym c.in-Next.is)
    (subst (λ (w : Word). OnOk c.next.result (SearchTells g.P.Patience.may_end q w (met_from old (aim_in old.machine.world) []) old new before after)) c.in-Next.is c.next.ensures.told)

pub returns-in-Until-clause-told : goal.returns-in-Until-clause-told
returns-in-Until-clause-told g c =
    let q = c.args.self.now.plan in
    let old = c.args.session.now in
    let new = c.seek.new.session in
    let before = string_bytes c.args.answer.now in
    let after = string_bytes c.seek.new.answer in
    subst (λ (w : Word). OnOk c.seek.result (Answers c.args.self.now.sources g.P.Patience.may_end q c.args.self.now.shown w old new before after)) (sym c.in-Until.is)
    (subst (λ (w : Word). OnOk c.seek.result (GoalTells g.P.Patience.may_end q w c.in-Until.goal old new before after)) c.in-Until.is c.seek.ensures.told)

pub returns-in-Run-clause-told : goal.returns-in-Run-clause-told
returns-in-Run-clause-told g c =
    let q = c.args.self.now.plan in
    let old = c.args.session.now in
    let new = c.play_on.new.session in
    let before = string_bytes c.args.answer.now in
    let after = string_bytes c.play_on.new.answer in
    subst (λ (w : Word). OnOk c.play_on.result (Answers c.args.self.now.sources g.P.Patience.may_end q c.args.self.now.shown w old new before after)) (sym c.in-Run.is)
    (subst (λ (w : Word). OnOk c.play_on.result (PlaysOnTell g.P.Patience.may_end q w c.in-Run.rounds old new before after)) c.in-Run.is c.play_on.ensures.told)

pub returns-in-Tick-clause-told : goal.returns-in-Tick-clause-told
returns-in-Tick-clause-told g c =
    let q = c.args.self.now.plan in
    let old = c.args.session.now in
    let new = c.send_often.new.session in
    let before = string_bytes c.args.answer.now in
    let after = string_bytes c.send_often.new.answer in
    subst (λ (w : Word). OnOk c.send_often.result (Answers c.args.self.now.sources g.P.Patience.may_end q c.args.self.now.shown w old new before after)) (sym c.in-Tick.is)
    (subst (λ (w : Word). OnOk c.send_often.result (SendsTell g.P.Patience.may_end w (λ n. replicate n runs.Tick) c.in-Tick.count old new before after)) c.in-Tick.is c.send_often.ensures.told)

pub returns-in-Send-clause-told : goal.returns-in-Send-clause-told
returns-in-Send-clause-told g c =
    let q = c.args.self.now.plan in
    let old = c.args.session.now in
    let new = c.send_often-in-Send.new.session in
    let before = string_bytes c.args.answer.now in
    let after = string_bytes c.send_often-in-Send.new.answer in
    subst (λ (w : Word). OnOk c.send_often-in-Send.result (Answers c.args.self.now.sources g.P.Patience.may_end q c.args.self.now.shown w old new before after)) (sym c.in-Send.is)
    (subst (λ (w : Word). OnOk c.send_often-in-Send.result (SendsTell g.P.Patience.may_end w (λ n. replicate n runs.Send) c.in-Send.count old new before after)) c.in-Send.is
    c.send_often-in-Send.ensures.told)

pub returns-in-Key-clause-told : goal.returns-in-Key-clause-told
returns-in-Key-clause-told g c =
    let q = c.args.self.now.plan in
    let old = c.args.session.now in
    let new = c.type_in.new.session in
    let before = string_bytes c.args.answer.now in
    let after = string_bytes c.type_in.new.answer in
    subst (λ (w : Word). OnOk c.type_in.result (Answers c.args.self.now.sources g.P.Patience.may_end q c.args.self.now.shown w old new before after)) (sym c.in-Key.is)
    (subst (λ (w : Word). OnOk c.type_in.result (SendsTell false w (λ n. map runs.Key (take n c.in-Key.keys.items)) (length c.in-Key.keys.items) old new before after)) c.in-Key.is
    c.type_in.ensures.told)

pub returns-in-ToMark-clause-told : goal.returns-in-ToMark-clause-told
returns-in-ToMark-clause-told g c =
    let q = c.args.self.now.plan in
    let old = c.args.session.now in
    let new = c.go_on.new.session in
    let before = string_bytes c.args.answer.now in
    let after = string_bytes c.go_on.new.answer in
    subst (λ (w : Word). OnOk c.go_on.result (Answers c.args.self.now.sources g.P.Patience.may_end q c.args.self.now.shown w old new before after)) (sym c.in-ToMark.is)
    (subst (λ (w : Word). OnOk c.go_on.result (SearchTells g.P.Patience.may_end q w (met_from old (On Fault) c.in-ToMark.marks.items) old new before after)) c.in-ToMark.is c.go_on.ensures.told)

pub returns-in-Finish-clause-told : goal.returns-in-Finish-clause-told
returns-in-Finish-clause-told g c =
    let q = c.args.self.now.plan in
    let old = c.args.session.now in
    let new = c.finish.new.session in
    let before = string_bytes c.args.answer.now in
    let after = string_bytes c.finish.new.answer in
    subst (λ (w : Word). OnOk c.finish.result (Answers c.args.self.now.sources g.P.Patience.may_end q c.args.self.now.shown w old new before after)) (sym c.in-Finish.is)
    (subst (λ (w : Word). OnOk c.finish.result (FinishTells c.args.self.now.sources g.P.Patience.may_end q w old new before after)) c.in-Finish.is c.finish.ensures.told)

pub returns-in-Goto-clause-told : goal.returns-in-Goto-clause-told
returns-in-Goto-clause-told g c =
    let q = c.args.self.now.plan in
    let old = c.args.session.now in
    let new = c.go_to.new.session in
    let before = string_bytes c.args.answer.now in
    let after = string_bytes c.go_to.new.answer in
    subst (λ (w : Word). OnOk c.go_to.result (Answers c.args.self.now.sources g.P.Patience.may_end q c.args.self.now.shown w old new before after)) (sym c.in-Goto.is)
    (subst (λ (w : Word). OnOk c.go_to.result (GotoTells g.P.Patience.may_end q w c.in-Goto.place old new before after)) c.in-Goto.is c.go_to.ensures.told)
