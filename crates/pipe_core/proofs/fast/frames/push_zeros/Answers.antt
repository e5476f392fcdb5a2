use Rattle.pipe_core.proofs.Between.{zeros_pushed}
use Rattle.std.proofs.Common.{refl}
use Rattle.pipe_core.proofs.fast.frames.push_zeros.Goals as goal

pub returns : goal.returns
returns c =
    zeros_pushed c.args.ram.now c.clear_part.new.self c.clear_part-2.new.self c.write_u64.new.self c.args.frame c.read_u64-oldest.result c.len-count.result _ c.min-before.result c.args.size
    c.requires.pipe c.clear_part.ensures.whole c.read_u64-oldest.ensures c.len-count.ensures.value refl c.requires.room c.min-before.ensures
    c.clear_part.ensures.cleared c.clear_part-2.ensures.cleared c.write_u64.ensures
