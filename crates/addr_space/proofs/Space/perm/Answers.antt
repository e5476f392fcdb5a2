use Rattle.addr_space.proofs.Prelude.{◌∙◌, ap, arith, option_map, page_at, perm_of_page, sym}
use Rattle.addr_space.proofs.Prices.{page-got}
use Rattle.addr_space.proofs.PriceTo.{got-none}
use Rattle.addr_space.proofs.Space.perm.Goals as goal

pub returns-then-number-self : goal.returns-then-number-self
returns-then-number-self c =
    let v = c.number-number.ensures.value in
    sym (ap (option_map perm_of_page) (got-none c.args.ram.now c.args.self.now.root c.args.vpn c.number-number.ensures.range
    (c.requires.ends c.args.vpn (omega (arith, v, c.if-number-self.true)) c.number-number.ensures.range)))

pub returns : goal.returns
returns c =
    c.perm_at.ensures ∙ ap (λ v. option_map perm_of_page (page_at c.args.ram.now c.args.self.now.root v)) c.number-number.ensures.value
    ∙ ap (option_map perm_of_page) (sym (page-got c.args.ram.now c.args.self.now.root c.args.vpn c.number-number.ensures.range))
