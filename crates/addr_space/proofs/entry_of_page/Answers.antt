use Rattle.addr_space.proofs.Prelude.{◌%◌, ◌/◌, ◌∙◌, ap, arith, last, lower-entry, no-lower, sym, upper-entry}
use Rattle.addr_space.proofs.entry_of_page.Goals as goal

pub returns-in_default : goal.returns-in_default
returns-in_default c =
    let none = upper-entry c.args.ram.now c.args.root (c.args.number / 262144) (omega (arith, c.requires.page)) ∙ sym c.in_default.ensures.table in
    sym (ap (λ t. last c.args.ram.now t (c.args.number % 512)) (no-lower c.args.ram.now c.args.root c.args.number none))

pub returns-in_default-read_lower_table : goal.returns-in_default-read_lower_table
returns-in_default-read_lower_table c =
    let some = upper-entry c.args.ram.now c.args.root (c.args.number / 262144) (omega (arith, c.requires.page)) ∙ sym c.in-Some.ensures.table in
    let low = lower-entry c.args.ram.now c.args.root c.args.number c.in-Some.upper some ∙ sym c.in_default-read_lower_table.ensures.table in
    sym (ap (λ t. last c.args.ram.now t (c.args.number % 512)) low)

pub returns : goal.returns
returns c =
    let some = upper-entry c.args.ram.now c.args.root (c.args.number / 262144) (omega (arith, c.requires.page)) ∙ sym c.in-Some.ensures.table in
    let low = lower-entry c.args.ram.now c.args.root c.args.number c.in-Some.upper some ∙ sym c.in-Some-read_lower_table.ensures.table in
    c.read_page_entry.ensures ∙ sym (ap (λ t. last c.args.ram.now t (c.args.number % 512)) low)
