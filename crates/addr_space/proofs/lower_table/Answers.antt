use Rattle.addr_space.proofs.Prelude.{◌/◌, ◌∙◌, arith, lower-entry, no-lower, sym, upper-entry}
use Rattle.addr_space.proofs.lower_table.Goals as goal

pub returns-in_default : goal.returns-in_default
returns-in_default c =
    let none = upper-entry c.args.ram.now c.args.root (c.args.number / 262144) (omega (arith, c.requires.page)) ∙ sym c.in_default.ensures.table in
    sym (no-lower c.args.ram.now c.args.root c.args.number none)

pub returns : goal.returns
returns c =
    let some = upper-entry c.args.ram.now c.args.root (c.args.number / 262144) (omega (arith, c.requires.page)) ∙ sym c.in-Some.ensures.table in
    c.read_lower_table.ensures.table ∙ sym (lower-entry c.args.ram.now c.args.root c.args.number c.in-Some.upper some)
