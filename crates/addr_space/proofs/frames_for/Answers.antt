use Rattle.addr_space.proofs.Prelude.{◌/◌, ◌∙◌, ap, arith, lower-entry, missing, no-lower, rise, sym, upper-entry}
use Rattle.addr_space.proofs.frames_for.Goals as goal

pub returns-in_default : goal.returns-in_default
unfolding rise
returns-in_default c =
    let none = upper-entry c.args.ram.now c.args.root (c.args.number / 262144) (omega (arith, c.requires.page)) ∙ sym c.in_default.ensures.table in
    let low = no-lower c.args.ram.now c.args.root c.args.number none in
    omega (arith, ap missing none, ap missing low)

pub returns-in_default-read_lower_table : goal.returns-in_default-read_lower_table
unfolding rise
returns-in_default-read_lower_table c =
    let some = upper-entry c.args.ram.now c.args.root (c.args.number / 262144) (omega (arith, c.requires.page)) ∙ sym c.in-Some.ensures.table in
    let low = lower-entry c.args.ram.now c.args.root c.args.number c.in-Some.upper some ∙ sym c.in_default-read_lower_table.ensures.table in
    omega (arith, ap missing some, ap missing low)

pub returns : goal.returns
unfolding rise
returns c =
    let some = upper-entry c.args.ram.now c.args.root (c.args.number / 262144) (omega (arith, c.requires.page)) ∙ sym c.in-Some.ensures.table in
    let low = lower-entry c.args.ram.now c.args.root c.args.number c.in-Some.upper some ∙ sym c.in-Some-read_lower_table.ensures.table in
    omega (arith, ap missing some, ap missing low)
