use Rattle.addr_space.proofs.Prelude.{◌%◌, ◌+◌, ◌-◌, ◌∙◌, ◌≡◌, ap, arith, entry_at, frame_of, sym}
use Rattle.addr_space.proofs.has_page.Goals as goal

pub returns-clause-none : goal.returns-clause-none
returns-clause-none c e k lt =
    let i = (c.args.from + 513 - k) % 512 in
    let at : (c.args.from + 513 - i) % 512 ≡ k = omega (arith, c.requires.from_in, lt) in
    ap (λ x. frame_of (entry_at c.args.ram.now c.args.table x)) (sym at) ∙ c.loop-back.invariant i (omega arith)

pub returns-in-Leaf-clause-some : goal.returns-in-Leaf-clause-some
returns-in-Leaf-clause-some c e = ((c.args.from + 513 - c.loop-back.back) % 512, c.in-Leaf.field-0, omega arith, ap frame_of (sym c.in-Leaf.ensures))
