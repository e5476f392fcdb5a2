use Rattle.std.proofs.Common.{◌≤◌, inl, inr, length, refl, string_bytes, arith}
use Rattle.debug_words.specs.declared.vocabulary.TheConstants.{EVENTS_MOST}
use Rattle.debug_views.proofs.Shown.{shows-text}
use Rattle.xv_debug.specs.ReasonText.{IsRefusalText, no_memory}
use Rattle.xv_debug.proofs.reasons.show_refusal.Goals as goal

pub returns-in-Err : goal.returns-in-Err
returns-in-Err c =
    let s = c.args.session.now in
    let within : length s.events ≤ EVENTS_MOST = omega arith in
    shows-text c.show_no_memory.result (IsRefusalText s c.args.pid) (string_bytes c.args.answer.now) (string_bytes c.show_no_memory.new.answer) no_memory
    (inl (within, inr refl)) c.show_no_memory.ensures
