use Rattle.kcall_core.specs.Observers.{process_at}
use Rattle.xv_debug.specs.WhereText.{IsProcessText}
use Rattle.xv_debug.proofs.Looking.{of-none, so-of-some}
use Rattle.xv_debug.proofs.debugger.Debugger.show_calls_of.Goals as goal

pub returns : goal.returns
returns c =
    let s = c.args.session.now in
    so-of-some c.show_process.result s c.args.named c.focus.result c.in-Some.pid (λ p. IsProcessText s p (process_at s.machine.world p))
    _ _ c.focus.ensures c.in-Some.is c.show_process.ensures

pub returns-in_default : goal.returns-in_default
returns-in_default c =
    let s = c.args.session.now in
    of-none c.show_nobody.result s c.args.named c.focus.result (λ p. IsProcessText s p (process_at s.machine.world p)) _ _ c.focus.ensures c.in_default.is c.show_nobody.ensures
