use Rattle.addr_space.proofs.Prelude.{◌%◌, ◌*◌, ◌+◌, ◌/◌, ◌∙◌, ◌≡◌, ap, arith, Hanging, lower-entry, missing, refl, subst, sym, table-owned, table_at}
use Rattle.addr_space.proofs.Steps.{hang-lower}
use Rattle.addr_space.proofs.Paths.{beside-none, hang-lower-beside}
use Rattle.addr_space.proofs.lower_for.Goals as goal

pub read_lower_table-requires : goal.read_lower_table-requires
read_lower_table-requires c = record {
  table_in = c.requires.holds.tree.once.inside c.args.upper
      (table-owned c.args.ram.now c.args.root 1 (c.args.number / 262144) c.args.upper c.requires.holds.tree (omega arith) c.requires.upper_is);
}

pub returns-in-Some : goal.returns-in-Some
returns-in-Some c = record {
  same = record { holds = c.requires.holds; count = refl; image = λ v. refl; frames = λ f. refl; others = λ f a b. refl };
  beside = beside-none c.args.ram.now c.args.root c.args.number;
  found = lower-entry c.args.ram.now c.args.root c.args.number c.args.upper c.requires.upper_is ∙ sym c.in-Some.ensures.table;
  left = omega arith;
}

pub hang-requires : goal.hang-requires
hang-requires c =
    let none = lower-entry c.args.ram.now c.args.root c.args.number c.args.upper c.requires.upper_is ∙ sym c.in_default.ensures.table in
    record {
      good = c.requires.holds.good;
      some_free = c.requires.room none;
      table_in = c.requires.holds.tree.once.inside c.args.upper
          (table-owned c.args.ram.now c.args.root 1 (c.args.number / 262144) c.args.upper c.requires.holds.tree (omega arith) c.requires.upper_is);
      entry_in = omega arith;
    }

pub returns : goal.returns
returns c =
    let none = lower-entry c.args.ram.now c.args.root c.args.number c.args.upper c.requires.upper_is ∙ sym c.in_default.ensures.table in
    let at : 512 * (c.args.number / 262144) + c.args.number / 512 % 512 ≡ c.args.number / 512 = omega arith in
    let hangs = subst (λ i. Hanging c.args.pool.now c.args.ram.now c.hang.new.pool c.hang.new.ram c.args.upper i c.hang.result) c.upper_index.ensures c.hang.ensures in
    let hung = hang-lower c.args.pool.now c.hang.new.pool c.args.ram.now c.hang.new.ram c.args.root c.args.upper
    (c.args.number / 512 % 512) c.hang.result (c.args.number / 262144) c.requires.holds hangs (omega (arith, c.requires.page))
    (omega arith) c.requires.upper_is (ap (table_at c.args.ram.now c.args.root 2) at ∙ none) in
    record {
      same = hung.0;
      beside = hang-lower-beside c.args.pool.now c.hang.new.pool c.args.ram.now c.hang.new.ram c.args.root c.args.upper
          c.args.number c.hang.result c.requires.holds hangs c.requires.page c.requires.upper_is
          (ap (table_at c.args.ram.now c.args.root 2) at ∙ none);
      found = ap (table_at c.hang.new.ram c.args.root 2) (sym at) ∙ hung.1;
      left = omega (arith, hung.2, ap missing none);
    }
