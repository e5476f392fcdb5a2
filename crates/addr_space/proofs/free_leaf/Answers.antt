use Rattle.addr_space.proofs.Prelude.{◌%◌, ◌*◌, ◌+◌, ◌/◌, ◌∙◌, ◌≡◌, ap, arith, Cleared, frame_of, is_some, last, page-owned, page_entry, root-inside, Some, subst, sym, table_at}
use Rattle.addr_space.proofs.Clearing.{PageGone, page-gone, inside-of, taken-of}
use Rattle.addr_space.proofs.free_leaf.Goals.{After-clear}
use Rattle.addr_space.proofs.free_leaf.Goals as goal

pub lower_table-requires-clause-root_in : goal.lower_table-requires-clause-root_in
lower_table-requires-clause-root_in c = root-inside c.args.ram.now c.args.root c.requires.holds.tree

pub read_page_entry-requires : goal.read_page_entry-requires
read_page_entry-requires c = record { table_in = inside-of c.args.pool.now c.args.ram.now c.args.root 2 (c.args.number / 512) c.in-Some.lower c.requires.holds (omega arith) (sym c.in-Some.ensures) }

pub clear-requires : goal.clear-requires
clear-requires c =
    let found : table_at c.args.ram.now c.args.root 2 (c.args.number / 512) ≡ Some c.in-Some.lower = sym c.in-Some.ensures in
    let there : frame_of (page_entry c.args.ram.now c.args.root c.args.number) ≡ Some c.in-Leaf.frame =
    ap (λ t. frame_of (last c.args.ram.now t (c.args.number % 512))) found ∙ ap frame_of (sym c.in-Leaf.ensures) in
    let own = page-owned c.args.ram.now c.args.root c.args.number c.in-Leaf.frame c.requires.holds.tree there in
    record {
      good = c.requires.holds.good;
      table_in = inside-of c.args.pool.now c.args.ram.now c.args.root 2 (c.args.number / 512) c.in-Some.lower c.requires.holds (omega arith) found;
      table_taken = taken-of c.args.pool.now c.args.ram.now c.args.root 2 (c.args.number / 512) c.in-Some.lower c.requires.holds (omega arith) found;
      entry_in = omega arith;
      frame_in = c.requires.holds.tree.once.inside c.in-Leaf.frame own;
      frame_taken = omega (arith, c.requires.holds.apart c.in-Leaf.frame, own);
    }

all : (c : After-clear) → PageGone c.args.pool.now c.args.ram.now c.clear.new.pool c.clear.new.ram c.args.root c.args.number
all c =
    let at : 512 * (c.args.number / 512) + c.args.number % 512 ≡ c.args.number = omega arith in
    let cleared = subst (λ i. Cleared c.args.pool.now c.args.ram.now c.clear.new.pool c.clear.new.ram c.in-Some.lower i c.in-Leaf.frame) c.lower_index.ensures c.clear.ensures in
    subst (λ u. PageGone c.args.pool.now c.args.ram.now c.clear.new.pool c.clear.new.ram c.args.root u) at
    (page-gone c.args.pool.now c.clear.new.pool c.args.ram.now c.clear.new.ram c.args.root c.in-Some.lower (c.args.number % 512) c.in-Leaf.frame
    (c.args.number / 512) c.in-Leaf.field-1 c.in-Leaf.field-2 c.in-Leaf.field-3 c.requires.holds cleared (omega arith) (sym c.in-Some.ensures)
    (sym c.in-Leaf.ensures))

pub returns-clause-freed : goal.returns-clause-freed
returns-clause-freed c = (all c).freed

pub returns-clause-gone : goal.returns-clause-gone
returns-clause-gone c = (all c).gone

pub returns-clause-pages : goal.returns-clause-pages
returns-clause-pages c = (all c).pages

pub returns-clause-image : goal.returns-clause-image
returns-clause-image c = (all c).image

pub returns-clause-table : goal.returns-clause-table
returns-clause-table c = ap is_some ((all c).lowers (c.args.number / 512) ∙ sym c.in-Some.ensures)
