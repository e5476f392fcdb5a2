use Rattle.pipe_core.proofs.Between.{part_pushed}
use Rattle.std.proofs.Common.{refl}
use Rattle.pipe_core.proofs.fast.frames.push_part.Goals as goal

pub returns-clause-pushed : goal.returns-clause-pushed
returns-clause-pushed c =
    part_pushed c.args.ram.now c.copy_part.new.self c.copy_rest.new.ram c.write_u64.new.self c.args.frame c.read_u64-oldest.result c.len-count.result _ c.min-before.result c.args.size
    c.requires.pipe c.copy_part.ensures.whole.1 c.read_u64-oldest.ensures c.len-count.ensures.value refl c.requires.room c.min-before.ensures
    c.args.from c.args.at c.requires.apart c.copy_part.ensures.whole.0 c.requires.at_in c.copy_part.ensures.copied c.copy_rest.ensures c.write_u64.ensures
