use Rattle.addr_space.proofs.Prelude.{◌/◌, ◌∙◌, ◌≡◌, arith, Cleared, entry_at, None, refl, root-inside, Some, subst, sym, table_at, upper-entry}
use Rattle.addr_space.proofs.Clearing.{TableGone, upper-gone, inside-of, taken-of, entry-lower, table-is, freed-upper}
use Rattle.addr_space.proofs.free_upper.Goals.{After-clear}
use Rattle.addr_space.proofs.Prices.{some-of-is}
use Rattle.addr_space.proofs.free_upper.Goals as goal

pub upper_table-requires-clause-root_in : goal.upper_table-requires-clause-root_in
upper_table-requires-clause-root_in c = root-inside c.args.ram.now c.args.root c.requires.holds.tree

pub unreachable-requires : goal.unreachable-requires
unreachable-requires c =
    let some = some-of-is (table_at c.args.ram.now c.args.root 1 (c.args.number / 262144)) c.requires.there in
    let w : None ≡ Some some.0 = sym c.in_default.is ∙ c.upper_table.ensures ∙ some.1 in absurd (cc)

pub clear-requires : goal.clear-requires
clear-requires c =
    record {
      good = c.requires.holds.good;
      table_in = root-inside c.args.ram.now c.args.root c.requires.holds.tree;
      table_taken = taken-of c.args.pool.now c.args.ram.now c.args.root 0 0 c.args.root c.requires.holds (omega arith) refl;
      entry_in = omega (arith, c.requires.page);
      frame_in = inside-of c.args.pool.now c.args.ram.now c.args.root 1 (c.args.number / 262144) c.in-Some.upper c.requires.holds (omega arith) (sym c.in-Some.ensures);
      frame_taken = taken-of c.args.pool.now c.args.ram.now c.args.root 1 (c.args.number / 262144) c.in-Some.upper c.requires.holds (omega arith) (sym c.in-Some.ensures);
    }

all : (c : After-clear) → TableGone c.args.pool.now c.args.ram.now c.clear.new.pool c.clear.new.ram c.args.root 0 (c.args.number / 262144)
all c =
    let ram = c.args.ram.now in
    let there : table_at ram c.args.root 1 (c.args.number / 262144) ≡ Some c.in-Some.upper = sym c.in-Some.ensures in
    let cleared = subst (λ i. Cleared c.args.pool.now ram c.clear.new.pool c.clear.new.ram c.args.root i c.in-Some.upper) c.root_index.ensures c.clear.ensures in
    let leads = table-is (entry_at ram c.args.root (c.args.number / 262144)) c.in-Some.upper (sym (upper-entry ram c.args.root (c.args.number / 262144) (omega (arith, c.requires.page))) ∙ there) in
    upper-gone c.args.pool.now c.clear.new.pool ram c.clear.new.ram c.args.root (c.args.number / 262144) c.in-Some.upper c.requires.holds cleared
    (omega (arith, c.requires.page)) there leads (λ j lt. sym (entry-lower ram c.args.root (c.args.number / 262144) c.in-Some.upper j lt there)
    ∙ c.requires.empty j lt)

pub returns-clause-freed : goal.returns-clause-freed
returns-clause-freed c = freed-upper c.args.pool.now c.clear.new.pool c.args.ram.now c.clear.new.ram c.args.root c.args.number (all c)

pub returns-clause-gone : goal.returns-clause-gone
returns-clause-gone c = (all c).gone

pub returns-clause-lowers : goal.returns-clause-lowers
returns-clause-lowers c p = (all c).tables 2 p (omega arith) (λ e is. omega (arith, e))

pub returns-clause-entries : goal.returns-clause-entries
returns-clause-entries c = (all c).entries

pub returns-clause-image : goal.returns-clause-image
returns-clause-image c = (all c).image
