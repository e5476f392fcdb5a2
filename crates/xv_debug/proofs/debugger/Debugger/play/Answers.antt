use Rattle.std.proofs.Common.{ℕ, inr, option_map, string_bytes, subst}
use Rattle.xv_debug.specs.Effects.{Plays}
use Rattle.xv_debug.proofs.Results.{if-ok, if-err}
use Rattle.std.proofs.lemmas.Result.{on_ok_weaker}
use Rattle.xv_machine.specs.Events.{outcome_of}
use Rattle.debug_views.specs.Written.{Writes}
use Rattle.xv_debug.specs.AnswerText.{IsSentText}
use Rattle.xv_debug.specs.OutputText.{output_text}
use Rattle.xv_debug.specs.motion.Rounds.{RoundsLeave}
use Rattle.xv_debug.proofs.debugger.Debugger.play.Goals as goal

pub returns-clause-done : goal.returns-clause-done
returns-clause-done g c =
    let q = c.args.self.now.plan in
    let j = c.play_rounds-journey in
    let had = c.in_ok-output.output in
    let has = j.new.output in
    let p : Plays g.P.Patience.may_end q c.args.rounds c.args.session.now j.new.session =
    record {
      stop = j.result.stop;
      had = had;
      has = has;
      leaves = subst (λ (n : ℕ). RoundsLeave g.P.Patience.may_end n c.args.rounds j.result.stop c.args.session.now j.new.session had has) c.quantum.ensures j.ensures.played;
    } in
    if-ok c.tell_shown.result p

pub returns-clause-failed : goal.returns-clause-failed
returns-clause-failed g c =
    let q = c.args.self.now.plan in
    let j = c.play_rounds-journey in
    let had = c.in_ok-output.output in
    let has = j.new.output in
    let p : Plays g.P.Patience.may_end q c.args.rounds c.args.session.now j.new.session =
    record {
      stop = j.result.stop;
      had = had;
      has = has;
      leaves = subst (λ (n : ℕ). RoundsLeave g.P.Patience.may_end n c.args.rounds j.result.stop c.args.session.now j.new.session had has) c.quantum.ensures j.ensures.played;
    } in
    if-err c.tell_shown.result (inr p)

pub returns-clause-told : goal.returns-clause-told
returns-clause-told g c =
    let q = c.args.self.now.plan in
    let j = c.play_rounds-journey in
    let had = c.in_ok-output.output in
    let has = j.new.output in
    let new = j.new.session in
    let o = option_map outcome_of j.result.last in
    let p : Plays g.P.Patience.may_end q c.args.rounds c.args.session.now new =
    record {
      stop = j.result.stop;
      had = had;
      has = has;
      leaves = subst (λ (n : ℕ). RoundsLeave g.P.Patience.may_end n c.args.rounds j.result.stop c.args.session.now j.new.session had has) c.quantum.ensures j.ensures.played;
    } in
    let before = string_bytes c.args.answer.now in
    let after = string_bytes c.tell_shown.new.answer in
    on_ok_weaker c.tell_shown.result (λ wrote. (
      p,
      (c.in_ok-output.ensures.kept, c.in_ok-output.ensures.none),
      (
        o,
        subst (λ (n : ℕ). Writes before after (IsSentText c.args.word.now new n j.result.stop o (output_text j.new.output))) j.ensures.sent wrote,
      ),
    )) c.tell_shown.ensures
