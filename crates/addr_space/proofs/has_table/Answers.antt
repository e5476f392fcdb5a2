use Rattle.addr_space.proofs.Prelude.{◌%◌, ◌+◌, ◌-◌, ◌∙◌, ◌≡◌, ap, arith, entry_at, sym, table_of}
use Rattle.addr_space.proofs.has_table.Goals as goal

pub returns-clause-none : goal.returns-clause-none
returns-clause-none c e k lt =
    let i = (c.args.from + 513 - k) % 512 in
    let at : (c.args.from + 513 - i) % 512 ≡ k = omega (arith, c.requires.from_in, lt) in
    ap (λ x. table_of (entry_at c.args.ram.now c.args.table x)) (sym at) ∙ c.loop-back.invariant i (omega arith)

pub returns-in-Some-clause-some : goal.returns-in-Some-clause-some
returns-in-Some-clause-some c e = ((c.args.from + 513 - c.loop-back.back) % 512, c.in-Some.field-0, omega arith, sym c.in-Some.ensures.table)
