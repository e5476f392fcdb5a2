use Rattle.addr_space.proofs.Prelude.{◌%◌, ◌*◌, ◌+◌, ◌/◌, ◌∙◌, ◌≡◌, ap, arith, Cleared, entry_at, frame_of, is_some, lower-entry, no-lower, None, root-inside, Some, subst, sym, table_at, Usual}
use Rattle.addr_space.proofs.Clearing.{TableGone, lower-gone, inside-of, taken-of, entry-page, table-is, usual-blank, freed-lower}
use Rattle.addr_space.proofs.free_lower.Goals.{After-clear}
use Rattle.addr_space.proofs.Prices.{some-of-is}
use Rattle.addr_space.proofs.free_lower.Goals as goal

pub upper_table-requires-clause-root_in : goal.upper_table-requires-clause-root_in
upper_table-requires-clause-root_in c = root-inside c.args.ram.now c.args.root c.requires.holds.tree

pub lower_table-requires-clause-root_in : goal.lower_table-requires-clause-root_in
lower_table-requires-clause-root_in c = root-inside c.args.ram.now c.args.root c.requires.holds.tree

pub unreachable-requires : goal.unreachable-requires
unreachable-requires c =
    let gone = no-lower c.args.ram.now c.args.root c.args.number (sym c.upper_table.ensures ∙ c.in_default.is) in
    let some = some-of-is (table_at c.args.ram.now c.args.root 2 (c.args.number / 512)) c.requires.there in
    let w : None ≡ Some some.0 = sym gone ∙ some.1 in absurd (cc)

pub unreachable-requires-in_default-lower_table : goal.unreachable-requires-in_default-lower_table
unreachable-requires-in_default-lower_table c =
    let some = some-of-is (table_at c.args.ram.now c.args.root 2 (c.args.number / 512)) c.requires.there in
    let w : None ≡ Some some.0 = sym c.in_default-lower_table.is ∙ c.lower_table.ensures ∙ some.1 in absurd (cc)

pub clear-requires : goal.clear-requires
clear-requires c =
    record {
      good = c.requires.holds.good;
      table_in = inside-of c.args.pool.now c.args.ram.now c.args.root 1 (c.args.number / 262144) c.in-Some.upper c.requires.holds (omega arith) (sym c.in-Some.ensures);
      table_taken = taken-of c.args.pool.now c.args.ram.now c.args.root 1 (c.args.number / 262144) c.in-Some.upper c.requires.holds (omega arith) (sym c.in-Some.ensures);
      entry_in = omega arith;
      frame_in = inside-of c.args.pool.now c.args.ram.now c.args.root 2 (c.args.number / 512) c.in-Some-lower_table.lower c.requires.holds (omega arith) (sym c.in-Some-lower_table.ensures);
      frame_taken = taken-of c.args.pool.now c.args.ram.now c.args.root 2 (c.args.number / 512) c.in-Some-lower_table.lower c.requires.holds (omega arith) (sym c.in-Some-lower_table.ensures);
    }

all : (c : After-clear) → TableGone c.args.pool.now c.args.ram.now c.clear.new.pool c.clear.new.ram c.args.root 1 (512 * (c.args.number / 262144) + c.args.number / 512 % 512)
all c =
    let ram = c.args.ram.now in
    let lower = c.in-Some-lower_table.lower in
    let at : 512 * (c.args.number / 262144) + c.args.number / 512 % 512 ≡ c.args.number / 512 = omega arith in
    let there : table_at ram c.args.root 2 (c.args.number / 512) ≡ Some lower = sym c.in-Some-lower_table.ensures in
    let cleared = subst (λ i. Cleared c.args.pool.now ram c.clear.new.pool c.clear.new.ram c.in-Some.upper i lower) c.upper_index.ensures c.clear.ensures in
    let leads = table-is (entry_at ram c.in-Some.upper (c.args.number / 512 % 512)) lower (sym (lower-entry ram c.args.root c.args.number c.in-Some.upper (sym c.in-Some.ensures)) ∙ there) in
    lower-gone c.args.pool.now c.clear.new.pool ram c.clear.new.ram c.args.root c.in-Some.upper (c.args.number / 512 % 512) lower
    (c.args.number / 262144) c.requires.holds cleared (omega arith) (sym c.in-Some.ensures) (ap (table_at ram c.args.root 2) at ∙ there) leads
    (λ j lt. usual-blank (entry_at ram lower j) (subst (λ e. Usual e) (entry-page ram c.args.root (c.args.number / 512) lower j lt there)
    (c.requires.usual (512 * (c.args.number / 512) + j)))
    (sym (ap frame_of (entry-page ram c.args.root (c.args.number / 512) lower j lt there)) ∙ c.requires.empty j lt))

pub returns-clause-freed : goal.returns-clause-freed
returns-clause-freed c = freed-lower c.args.pool.now c.clear.new.pool c.args.ram.now c.clear.new.ram c.args.root
    (512 * (c.args.number / 262144) + c.args.number / 512 % 512) c.args.number (all c) (omega arith)

pub returns-clause-gone : goal.returns-clause-gone
returns-clause-gone c =
    let at : 512 * (c.args.number / 262144) + c.args.number / 512 % 512 ≡ c.args.number / 512 = omega arith in
    sym (ap (table_at c.clear.new.ram c.args.root 2) at) ∙ (all c).gone

pub returns-clause-upper : goal.returns-clause-upper
returns-clause-upper c = ap is_some ((all c).tables 1 (c.args.number / 262144) (omega arith) (λ e is. omega (arith, e)) ∙ sym c.in-Some.ensures)

pub returns-clause-entries : goal.returns-clause-entries
returns-clause-entries c = (all c).entries

pub returns-clause-image : goal.returns-clause-image
returns-clause-image c = (all c).image
