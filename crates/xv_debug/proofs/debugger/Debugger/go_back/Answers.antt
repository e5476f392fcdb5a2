use Rattle.std.proofs.Common.{ℕ, inl, inr, subst, string_bytes}
use Rattle.std.proofs.lemmas.Result.{on_ok_weaker}
use Rattle.debug_views.specs.Written.{Writes}
use Rattle.xv_debug.specs.AnswerText.{IsBackText}
use Rattle.xv_debug.proofs.debugger.Debugger.go_back.Goals as goal

pub returns-in-Ok-clause-told : goal.returns-in-Ok-clause-told
returns-in-Ok-clause-told g c =
    let before = string_bytes c.args.answer.now in
    let after = string_bytes c.tell_back.new.answer in
    on_ok_weaker c.tell_back.result (λ wrote. inl (
      c.in-Ok.ensures.back,
      subst (λ (n : ℕ). Writes before after (IsBackText c.go_back.new.session n)) c.in-Ok.ensures.count wrote,
    )) c.tell_back.ensures

pub returns-in-Err-clause-told : goal.returns-in-Err-clause-told
returns-in-Err-clause-told g c =
    on_ok_weaker c.show_unplayed.result (λ wrote. inr (c.in-Err.error, c.in-Err.ensures.unplayed, c.in-Err.ensures.refused, wrote)) c.show_unplayed.ensures
