use Rattle.addr_space.proofs.Prelude.{◌∙◌, ◌≡◌, ap, arith, frame_of, None, Some, subst, sym, Usual}
use Rattle.addr_space.proofs.Paths.{leaves-after, beside-join}
use Rattle.addr_space.proofs.Prices.{page-none-counted}
use Rattle.addr_space.proofs.Freeing.{freed-join, no-lowers, tables-freed, page-went, lower-went, upper-went}
use Rattle.addr_space.proofs.Space.free_page.Goals as goal

pub lower_in_use-requires-clause-tree : goal.lower_in_use-requires-clause-tree
lower_in_use-requires-clause-tree c = c.free_leaf.ensures.freed.holds.tree

pub lower_in_use-requires-clause-there : goal.lower_in_use-requires-clause-there
lower_in_use-requires-clause-there c = c.free_leaf.ensures.table

pub lower_in_use-requires-clause-count : goal.lower_in_use-requires-clause-count
lower_in_use-requires-clause-count c = omega (arith, c.free_leaf.ensures.pages, c.requires.belongs.whole.pages)

pub free_lower-requires-clause-usual : goal.free_lower-requires-clause-usual
free_lower-requires-clause-usual c = leaves-after c.args.ram.now c.free_leaf.new.ram c.args.self.now.root c.args.number
    c.requires.belongs.whole.leaves c.free_leaf.ensures.freed.beside (subst (λ e. Usual e) (sym c.free_leaf.ensures.gone) tt)

pub free_lower-requires-clause-empty : goal.free_lower-requires-clause-empty
free_lower-requires-clause-empty c = c.lower_in_use.ensures.unused c.if-lower_in_use.false

pub overflow_sub-self-2 : goal.overflow_sub-self-2
overflow_sub-self-2 c =
    tables-freed c.args.pool.now c.free_leaf.new.pool c.free_lower.new.pool c.args.ram.now c.free_leaf.new.ram c.free_lower.new.ram c.args.self.now
    c.args.number 1 c.requires.belongs c.free_leaf.ensures.freed c.free_lower.ensures.freed c.free_leaf.ensures.pages c.free_lower.ensures.entries

pub upper_in_use-requires-clause-tree : goal.upper_in_use-requires-clause-tree
upper_in_use-requires-clause-tree c = c.free_lower.ensures.freed.holds.tree

pub upper_in_use-requires-clause-there : goal.upper_in_use-requires-clause-there
upper_in_use-requires-clause-there c = c.free_lower.ensures.upper

-- the only page went, so that no lower table is left
pub upper_in_use-requires-clause-none : goal.upper_in_use-requires-clause-none
upper_in_use-requires-clause-none c last p =
    let root = c.args.self.now.root in
    no-lowers c.args.ram.now c.free_lower.new.ram root c.args.number c.free_lower.ensures.freed.holds.tree c.requires.belongs.whole.full
    (beside-join c.args.ram.now c.free_leaf.new.ram c.free_lower.new.ram root c.args.number c.free_leaf.ensures.freed.beside c.free_lower.ensures.freed.beside)
    (λ f e. let w : None ≡ Some f = sym c.free_lower.ensures.gone ∙ e in absurd (cc))
    (λ u lt. ap frame_of (c.free_lower.ensures.entries u) ∙ page-none-counted c.free_leaf.new.ram root (omega (arith, c.free_leaf.ensures.pages, c.requires.belongs.whole.pages, last)) u lt) p

pub free_upper-requires-clause-there : goal.free_upper-requires-clause-there
free_upper-requires-clause-there c = c.free_lower.ensures.upper

pub free_upper-requires-clause-empty : goal.free_upper-requires-clause-empty
free_upper-requires-clause-empty c = c.upper_in_use.ensures.unused c.if-upper_in_use.false

pub overflow_sub-self-3 : goal.overflow_sub-self-3
overflow_sub-self-3 c =
    let root = c.args.self.now.root in
    let both = freed-join c.free_leaf.new.pool c.free_lower.new.pool c.free_upper.new.pool c.free_leaf.new.ram c.free_lower.new.ram
    c.free_upper.new.ram root c.args.number 1 1 c.free_lower.ensures.freed c.free_upper.ensures.freed in
    omega (
      arith,
      tables-freed c.args.pool.now c.free_leaf.new.pool c.free_upper.new.pool c.args.ram.now c.free_leaf.new.ram c.free_upper.new.ram c.args.self.now
          c.args.number 2 c.requires.belongs c.free_leaf.ensures.freed both c.free_leaf.ensures.pages
          (λ u. c.free_upper.ensures.entries u ∙ c.free_lower.ensures.entries u),
    )

pub returns-then-lower_in_use-clause-changed : goal.returns-then-lower_in_use-clause-changed
returns-then-lower_in_use-clause-changed c =
    page-went c.args.pool.now c.free_leaf.new.pool c.args.ram.now c.free_leaf.new.ram c.args.self.now c.args.number c.requires.belongs
    c.free_leaf.ensures.freed c.free_leaf.ensures.gone c.free_leaf.ensures.pages c.free_leaf.ensures.table
    (c.lower_in_use.ensures.used c.if-lower_in_use.true)

pub returns-then-lower_in_use-clause-entries : goal.returns-then-lower_in_use-clause-entries
returns-then-lower_in_use-clause-entries c u ne = c.free_leaf.ensures.freed.beside.pages u ne

pub returns-then-upper_in_use-clause-changed : goal.returns-then-upper_in_use-clause-changed
returns-then-upper_in_use-clause-changed c =
    lower-went c.args.pool.now c.free_leaf.new.pool c.free_lower.new.pool c.args.ram.now c.free_leaf.new.ram c.free_lower.new.ram c.args.self.now
    c.args.number c.requires.belongs c.free_leaf.ensures.freed c.free_lower.ensures.freed c.free_leaf.ensures.gone c.free_leaf.ensures.pages
    c.free_lower.ensures.entries c.free_lower.ensures.gone (c.upper_in_use.ensures.used c.if-upper_in_use.true)

pub returns-then-upper_in_use-clause-others : goal.returns-then-upper_in_use-clause-others
returns-then-upper_in_use-clause-others c u ne = c.free_lower.ensures.image u ∙ c.free_leaf.ensures.image u ne

pub returns-then-upper_in_use-clause-gone : goal.returns-then-upper_in_use-clause-gone
returns-then-upper_in_use-clause-gone c = c.free_lower.ensures.entries c.args.number ∙ c.free_leaf.ensures.gone

pub returns-then-upper_in_use-clause-entries : goal.returns-then-upper_in_use-clause-entries
returns-then-upper_in_use-clause-entries c u ne = c.free_lower.ensures.entries u ∙ c.free_leaf.ensures.freed.beside.pages u ne

pub returns-clause-changed : goal.returns-clause-changed
returns-clause-changed c =
    upper-went c.args.pool.now c.free_leaf.new.pool c.free_lower.new.pool c.free_upper.new.pool c.args.ram.now c.free_leaf.new.ram
    c.free_lower.new.ram c.free_upper.new.ram c.args.self.now c.args.number c.requires.belongs c.free_leaf.ensures.freed
    c.free_lower.ensures.freed c.free_upper.ensures.freed
    c.free_leaf.ensures.gone c.free_leaf.ensures.pages c.free_lower.ensures.entries c.free_upper.ensures.entries c.free_upper.ensures.lowers c.free_lower.ensures.gone c.free_upper.ensures.gone

pub returns-clause-others : goal.returns-clause-others
returns-clause-others c u ne = c.free_upper.ensures.image u ∙ c.free_lower.ensures.image u ∙ c.free_leaf.ensures.image u ne

pub returns-clause-gone : goal.returns-clause-gone
returns-clause-gone c = c.free_upper.ensures.entries c.args.number ∙ c.free_lower.ensures.entries c.args.number ∙ c.free_leaf.ensures.gone

pub returns-clause-entries : goal.returns-clause-entries
returns-clause-entries c u ne = c.free_upper.ensures.entries u ∙ c.free_lower.ensures.entries u ∙ c.free_leaf.ensures.freed.beside.pages u ne
