use Rattle.std.proofs.Common.{◌≡◌, refl}
use Rattle.debug_views.specs.RegisterText.{registers_shown}
use Rattle.xv_debug.proofs.Looking.{of-some, of-none}
use Rattle.xv_debug.proofs.looks.show_registers_of.Goals as goal

pub returns-in-Some : goal.returns-in-Some
returns-in-Some c =
    let s = c.args.session.now in
    of-some c.show_registers.result s c.args.named c.focus.result c.in-Some.pid (λ p text. text ≡ registers_shown s p) _ _ (registers_shown s c.in-Some.pid) c.focus.ensures c.in-Some.is refl c.show_registers.ensures

pub returns-in-None : goal.returns-in-None
returns-in-None c =
    let s = c.args.session.now in
    of-none c.show_nobody.result s c.args.named c.focus.result (λ p text. text ≡ registers_shown s p) _ _ c.focus.ensures c.in-None.is c.show_nobody.ensures
