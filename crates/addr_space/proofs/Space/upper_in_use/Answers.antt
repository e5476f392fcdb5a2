use Rattle.addr_space.proofs.Prelude.{◌*◌, ◌+◌, ◌/◌, ◌∙◌, ◌≡◌, arith, None, root-inside, Some, sym, table-owned, table_at}
use Rattle.addr_space.proofs.Clearing.{entry-lower}
use Rattle.addr_space.proofs.Prices.{some-of-is}
use Rattle.addr_space.proofs.Space.upper_in_use.Goals as goal

-- the space has no page, and so no lower table
pub returns-then-self-eq0-clause-unused : goal.returns-then-self-eq0-clause-unused
returns-then-self-eq0-clause-unused c e i lt = c.requires.none c.if-self-eq0.true (512 * (c.args.number / 262144) + i)

pub upper_table-requires-clause-root_in : goal.upper_table-requires-clause-root_in
upper_table-requires-clause-root_in c = root-inside c.args.ram.now c.args.self.now.root c.requires.tree

pub unreachable-requires : goal.unreachable-requires
unreachable-requires c =
    let some = some-of-is (table_at c.args.ram.now c.args.self.now.root 1 (c.args.number / 262144)) c.requires.there in
    let w : None ≡ Some some.0 = sym c.in_default.is ∙ c.upper_table.ensures ∙ some.1 in absurd (cc)

pub has_table-requires-clause-table_in : goal.has_table-requires-clause-table_in
has_table-requires-clause-table_in c = c.requires.tree.once.inside c.in-Some.upper
    (table-owned c.args.ram.now c.args.self.now.root 1 (c.args.number / 262144) c.in-Some.upper c.requires.tree (omega arith) (sym c.in-Some.ensures))

pub returns-clause-used : goal.returns-clause-used
returns-clause-used c e =
    let one = c.has_table.ensures.some e in
    (one.0, one.1, one.2, entry-lower c.args.ram.now c.args.self.now.root (c.args.number / 262144) c.in-Some.upper one.0 one.2 (sym c.in-Some.ensures) ∙ one.3)

pub returns-clause-unused : goal.returns-clause-unused
returns-clause-unused c e i lt =
    entry-lower c.args.ram.now c.args.self.now.root (c.args.number / 262144) c.in-Some.upper i lt (sym c.in-Some.ensures) ∙ c.has_table.ensures.none e i lt
