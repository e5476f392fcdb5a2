use Rattle.std.proofs.Common.{◌≡◌, ap, unwrap_or}
use Rattle.debug_views.specs.MemoryText.{memory_shown}
use Rattle.xv_debug.proofs.Looking.{of-some, of-none}
use Rattle.xv_debug.proofs.debugger.Debugger.show_memory_of.Goals as goal

pub returns-clause-shows : goal.returns-clause-shows
returns-clause-shows c =
    let s = c.args.session.now in
    let p = c.in-Some.pid in
    let from = unwrap_or c.args.address c.args.self.now.shown in
    of-some c.show_memory.result s c.args.named c.focus.result p (λ p text. text ≡ memory_shown s p from c.args.count) _ _ (memory_shown s p c.unwrap_or-from.result c.args.count) c.focus.ensures c.in-Some.is
    (ap (λ a. memory_shown s p a c.args.count) c.unwrap_or-from.ensures) c.show_memory.ensures

pub returns-in_default-clause-shows : goal.returns-in_default-clause-shows
returns-in_default-clause-shows c =
    let s = c.args.session.now in
    let from = unwrap_or c.args.address c.args.self.now.shown in
    of-none c.show_nobody.result s c.args.named c.focus.result (λ p text. text ≡ memory_shown s p from c.args.count) _ _ c.focus.ensures c.in_default.is c.show_nobody.ensures
