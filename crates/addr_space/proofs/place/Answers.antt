use Rattle.addr_space.proofs.Prelude.{◌∙◌, ◌≡◌, arith, leaf_word, subst, WordWritten}
use Rattle.addr_space.proofs.place.Goals as goal

pub returns-clause-placed : goal.returns-clause-placed
returns-clause-placed c =
    let e : c.bits.result ≡ leaf_word c.in-Some.frame c.args.perm = c.bits.ensures ∙ c.leaf.ensures in (
      c.in-Some.frame,
      record {
        mid = c.take.new.ram;
        taken = c.in-Some.ensures.taken;
        put = subst (λ v. WordWritten c.take.new.ram c.write_u64.new.self c.args.table c.args.index v) e c.write_u64.ensures;
        small = omega (arith, c.in-Some.ensures.taken.inside, c.in-Some.ensures.taken.traded.count, c.requires.good.small);
      },
    )
