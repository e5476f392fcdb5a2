use Rattle.addr_space.proofs.Prelude.{◌*◌, ◌+◌, ◌/◌, ◌∙◌, ◌≡◌, ap, arith, frame_of, None, root-inside, Some, sym, table-owned, table_at}
use Rattle.addr_space.proofs.Clearing.{entry-page}
use Rattle.addr_space.proofs.Prices.{page-none-counted, some-of-is}
use Rattle.addr_space.proofs.Space.lower_in_use.Goals as goal

-- the space has no page
pub returns-then-self-eq0-clause-unused : goal.returns-then-self-eq0-clause-unused
returns-then-self-eq0-clause-unused c e i lt =
    page-none-counted c.args.ram.now c.args.self.now.root (omega (arith, c.requires.count, c.if-self-eq0.true)) (512 * (c.args.number / 512) + i) (omega (arith, lt, c.requires.page))

pub lower_table-requires-clause-root_in : goal.lower_table-requires-clause-root_in
lower_table-requires-clause-root_in c = root-inside c.args.ram.now c.args.self.now.root c.requires.tree

pub unreachable-requires : goal.unreachable-requires
unreachable-requires c =
    let some = some-of-is (table_at c.args.ram.now c.args.self.now.root 2 (c.args.number / 512)) c.requires.there in
    let w : None ≡ Some some.0 = sym c.in_default.is ∙ c.lower_table.ensures ∙ some.1 in absurd (cc)

pub has_page-requires-clause-table_in : goal.has_page-requires-clause-table_in
has_page-requires-clause-table_in c = c.requires.tree.once.inside c.in-Some.lower
    (table-owned c.args.ram.now c.args.self.now.root 2 (c.args.number / 512) c.in-Some.lower c.requires.tree (omega arith) (sym c.in-Some.ensures))

pub returns-clause-used : goal.returns-clause-used
returns-clause-used c e =
    let one = c.has_page.ensures.some e in
    (one.0, one.1, one.2, ap frame_of (entry-page c.args.ram.now c.args.self.now.root (c.args.number / 512) c.in-Some.lower one.0 one.2 (sym c.in-Some.ensures)) ∙ one.3)

pub returns-clause-unused : goal.returns-clause-unused
returns-clause-unused c e i lt =
    ap frame_of (entry-page c.args.ram.now c.args.self.now.root (c.args.number / 512) c.in-Some.lower i lt (sym c.in-Some.ensures)) ∙ c.has_page.ensures.none e i lt
