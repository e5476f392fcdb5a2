use Rattle.addr_space.proofs.Prelude.{◌∙◌, ap, arith, copies, free_in-written, Good-written}
use Rattle.addr_space.proofs.clear.Goals as goal

pub give-requires : goal.give-requires
give-requires c =
    let same = free_in-written c.args.pool.now c.args.ram.now c.write_u64.new.self c.args.table c.requires.good c.write_u64.ensures.stay c.requires.table_taken in
    record {
      good = Good-written c.args.pool.now c.args.ram.now c.write_u64.new.self c.args.table c.requires.good c.write_u64.ensures.stay c.requires.table_taken;
      inside = omega (arith, c.requires.frame_in, c.write_u64.ensures.stay.count);
      not_free = ap (copies c.args.frame) same ∙ c.requires.frame_taken;
    }

pub returns : goal.returns
returns c = record {
  mid = c.write_u64.new.self;
  put = c.write_u64.ensures;
  same = free_in-written c.args.pool.now c.args.ram.now c.write_u64.new.self c.args.table c.requires.good c.write_u64.ensures.stay c.requires.table_taken;
  given = c.give.ensures;
}
