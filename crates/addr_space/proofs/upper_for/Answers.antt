use Rattle.addr_space.proofs.Prelude.{◌*◌, ◌+◌, ◌/◌, ◌∙◌, ◌≡◌, ap, arith, Hanging, missing, refl, root-inside, subst, sym, table_at, upper-entry}
use Rattle.addr_space.proofs.Steps.{hang-upper}
use Rattle.addr_space.proofs.Paths.{beside-none, hang-upper-beside}
use Rattle.addr_space.proofs.upper_for.Goals as goal

pub read_upper_table-requires-clause-table_in : goal.read_upper_table-requires-clause-table_in
read_upper_table-requires-clause-table_in c = root-inside c.args.ram.now c.args.root c.requires.holds.tree

pub returns-in-Some : goal.returns-in-Some
returns-in-Some c = record {
  same = record { holds = c.requires.holds; count = refl; image = λ v. refl; frames = λ f. refl; others = λ f a b. refl };
  beside = beside-none c.args.ram.now c.args.root c.args.number;
  found = upper-entry c.args.ram.now c.args.root (c.args.number / 262144) (omega (arith, c.requires.page)) ∙ sym c.in-Some.ensures.table;
  lowers = λ p. refl;
  left = omega arith;
}

pub hang-requires : goal.hang-requires
hang-requires c =
    let none = upper-entry c.args.ram.now c.args.root (c.args.number / 262144) (omega (arith, c.requires.page)) ∙ sym c.in_default.ensures.table in
    record {
      good = c.requires.holds.good;
      some_free = c.requires.room none;
      table_in = root-inside c.args.ram.now c.args.root c.requires.holds.tree;
      entry_in = omega (arith, c.requires.page);
    }

pub returns : goal.returns
returns c =
    let none = upper-entry c.args.ram.now c.args.root (c.args.number / 262144) (omega (arith, c.requires.page)) ∙ sym c.in_default.ensures.table in
    let hangs = subst (λ i. Hanging c.args.pool.now c.args.ram.now c.hang.new.pool c.hang.new.ram c.args.root i c.hang.result) c.root_index.ensures c.hang.ensures in
    let at : 512 * 0 + (c.args.number / 262144) ≡ (c.args.number / 262144) = omega arith in
    let hung = hang-upper c.args.pool.now c.hang.new.pool c.args.ram.now c.hang.new.ram c.args.root
    (c.args.number / 262144) c.hang.result c.requires.holds hangs (omega (arith, c.requires.page)) (ap (table_at c.args.ram.now c.args.root 1) at ∙ none) in
    record {
      same = hung.0;
      beside = hang-upper-beside c.args.pool.now c.hang.new.pool c.args.ram.now c.hang.new.ram c.args.root c.args.number
          c.hang.result c.requires.holds hangs c.requires.page (ap (table_at c.args.ram.now c.args.root 1) at ∙ none);
      found = ap (table_at c.hang.new.ram c.args.root 1) (sym at) ∙ hung.1;
      lowers = hung.2;
      left = omega (arith, hung.3, ap missing none);
    }
