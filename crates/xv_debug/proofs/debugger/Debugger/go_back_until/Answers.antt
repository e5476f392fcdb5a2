use Rattle.std.proofs.Common.{ℕ, Option, Some, inl, inr, subst}
use Rattle.std.proofs.lemmas.Result.{on_ok_weaker}
use Rattle.xv_debug.specs.motion.Backwards.{GoesBackUntil}
use Rattle.xv_debug.proofs.debugger.Debugger.go_back_until.Goals as goal

pub returns-in-Ok-Some-clause-done : goal.returns-in-Ok-Some-clause-done
returns-in-Ok-Some-clause-done g c = inr (c.in-Ok-Some.field-0, c.in-Ok-Some.ensures.back)

pub returns-in-Ok-Some-clause-told : goal.returns-in-Ok-Some-clause-told
returns-in-Ok-Some-clause-told g c =
    let back = subst (λ (taken : Option ℕ). GoesBackUntil c.args.aim.now taken c.args.session.now c.back_until.new.session) c.in-Ok-Some.field-0-is c.in-Ok-Some.ensures.back in
    on_ok_weaker c.tell_back.result (λ wrote. inl (Some c.in-Ok-Some.taken, back, wrote)) c.tell_back.ensures

pub returns-in-Err-clause-told : goal.returns-in-Err-clause-told
returns-in-Err-clause-told g c =
    on_ok_weaker c.show_unplayed.result (λ wrote. inr (c.in-Err.why, c.in-Err.ensures.unplayed, c.in-Err.ensures.refused, wrote)) c.show_unplayed.ensures
