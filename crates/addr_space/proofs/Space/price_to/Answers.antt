use Rattle.addr_space.proofs.Prelude.{◌-◌, ◌∙◌, arith, pages_of, with_absent, zeroed}
use Rattle.addr_space.proofs.PriceTo.{cost-size}
use Rattle.addr_space.proofs.Space.price_to.Goals as goal

pub page_count-first-requires : goal.page_count-first-requires
page_count-first-requires c = omega (arith, c.requires.whole.size)

pub returns : goal.returns
returns c perm =
    let first = c.page_count-first.result in
    rw (← c.page_count-first.ensures.value, ← c.page_count-last.ensures.value)
    (cost-size (with_absent (pages_of c.args.ram.now c.args.self.now.root) first (c.page_count-last.result - first) (zeroed perm)) c.args.size c.args.self.now.size ∙ c.price_between.ensures perm)
