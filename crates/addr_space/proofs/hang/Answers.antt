use Rattle.addr_space.proofs.Prelude.{◌∙◌, ◌≡◌, arith, subst, table_word, WordWritten}
use Rattle.addr_space.proofs.hang.Goals as goal

pub returns : goal.returns
returns c =
    let e : c.bits.result ≡ table_word c.in-Some.frame = c.bits.ensures ∙ c.table.ensures in
    record {
      mid = c.take.new.ram;
      taken = c.in-Some.ensures.taken;
      put = subst (λ v. WordWritten c.take.new.ram c.write_u64.new.self c.args.table c.args.index v) e c.write_u64.ensures;
      small = omega (arith, c.in-Some.ensures.taken.inside, c.in-Some.ensures.taken.traded.count, c.requires.good.small);
    }
