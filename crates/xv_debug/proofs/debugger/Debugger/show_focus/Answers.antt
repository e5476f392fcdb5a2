use Rattle.debug_views.proofs.Shown.{shows-same}
use Rattle.xv_debug.specs.WhereText.{IsWhereOf, IsWhereText}
use Rattle.xv_debug.proofs.debugger.Debugger.show_focus.Goals as goal

pub returns : goal.returns
returns c =
    let s = c.args.session.now in
    let p = c.focus-pid.result in
    shows-same c.show_where.result (IsWhereText s p) (IsWhereOf s c.args.named) _ _ (λ text is. (p, c.focus-pid.ensures, is)) c.show_where.ensures
