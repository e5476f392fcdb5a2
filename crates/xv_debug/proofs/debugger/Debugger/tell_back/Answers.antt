use Rattle.std.proofs.Common.{None, refl}
use Rattle.debug_views.proofs.Shown.{shows-behind}
use Rattle.xv_debug.specs.AnswerText.{IsBackText}
use Rattle.xv_debug.specs.StopText.{back_text}
use Rattle.xv_debug.specs.WhereText.{IsWhereOf}
use Rattle.xv_debug.proofs.debugger.Debugger.tell_back.Goals as goal

pub returns : goal.returns
returns c =
    let s = c.args.session.now in
    shows-behind c.show_focus.result (IsWhereOf s None) (IsBackText s c.args.taken) _ _ _ (back_text c.args.taken) c.in_ok-writeln.ensures.bytes (λ rest is. (rest, is, refl)) c.show_focus.ensures
