use Rattle.addr_space.proofs.Prelude.{◌*◌, ◌-◌, ◌∙◌, ap, arith, inl, inr, is_among, pages_at}
use Rattle.addr_space.proofs.Touching.{among-yes, among-before, among-behind, among-none, least-of}
use Rattle.addr_space.proofs.absent.pages_below.Goals as goal

pub returns-then-address-top-clause-behind : goal.returns-then-address-top-clause-behind
returns-then-address-top-clause-behind c v ge lt = elim c.then-address-top.either [
  | inl past ↦ among-before c.args.address c.args.len v (omega (arith, lt, past))
  | inr none ↦ ap (λ n. is_among v (pages_at c.args.address n)) none.1 ∙ among-none c.args.address v
]

pub returns-clause-inside : goal.returns-clause-inside
returns-clause-inside c v ge lt =
    let m = least-of c.min.result c.args.len (c.page_count.result * 4096 - c.args.address) c.min.ensures in
    (among-yes c.args.address c.args.len v (omega (arith, c.if-len-eq0.false)) ge (omega (arith, lt, m.0)), omega (arith, lt, m.1, c.if-address-top.false))

pub returns-clause-before : goal.returns-clause-before
returns-clause-before c v lt small = among-before c.args.address c.args.len v lt

pub returns-clause-behind : goal.returns-clause-behind
returns-clause-behind c v ge lt =
    let m = least-of c.min.result c.args.len (c.page_count.result * 4096 - c.args.address) c.min.ensures in
    elim m.2 [
      | inl all ↦ among-behind c.args.address c.args.len v (omega (arith, ge, all))
      | inr cut ↦ absurd (omega (arith, ge, lt, cut, c.if-address-top.false))
    ]
