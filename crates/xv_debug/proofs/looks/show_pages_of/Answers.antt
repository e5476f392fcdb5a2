use Rattle.debug_views.specs.PagesText.{IsPagesText}
use Rattle.xv_debug.proofs.Looking.{of-none, so-of-some}
use Rattle.xv_debug.proofs.looks.show_pages_of.Goals as goal

pub returns-in-Some : goal.returns-in-Some
returns-in-Some c =
    let s = c.args.session.now in
    so-of-some c.show_pages.result s c.args.named c.focus.result c.in-Some.pid (λ p. IsPagesText s p c.args.from) _ _ c.focus.ensures c.in-Some.is c.show_pages.ensures

pub returns-in-None : goal.returns-in-None
returns-in-None c =
    let s = c.args.session.now in
    of-none c.show_nobody.result s c.args.named c.focus.result (λ p. IsPagesText s p c.args.from) _ _ c.focus.ensures c.in-None.is c.show_nobody.ensures
