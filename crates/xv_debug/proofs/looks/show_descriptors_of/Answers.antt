use Rattle.std.proofs.Common.{◌≡◌, refl}
use Rattle.debug_views.specs.DescriptorText.{descriptors_shown}
use Rattle.xv_debug.proofs.Looking.{of-some, of-none}
use Rattle.xv_debug.proofs.looks.show_descriptors_of.Goals as goal

pub returns-in-Some : goal.returns-in-Some
returns-in-Some c =
    let s = c.args.session.now in
    of-some c.show_descriptors.result s c.args.named c.focus.result c.in-Some.pid (λ p text. text ≡ descriptors_shown s p) _ _ (descriptors_shown s c.in-Some.pid) c.focus.ensures c.in-Some.is refl c.show_descriptors.ensures

pub returns-in-None : goal.returns-in-None
returns-in-None c =
    let s = c.args.session.now in
    of-none c.show_nobody.result s c.args.named c.focus.result (λ p text. text ≡ descriptors_shown s p) _ _ c.focus.ensures c.in-None.is c.show_nobody.ensures
