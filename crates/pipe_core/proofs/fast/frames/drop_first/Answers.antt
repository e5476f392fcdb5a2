use Rattle.std.proofs.Common.{arith}
use Rattle.pipe_core.proofs.Changes.{pulls_to}
use Rattle.pipe_core.proofs.fast.frames.drop_first.Goals as goal

pub returns : goal.returns
returns c =
    pulls_to c.args.ram.now _ c.write_u64-2.new.self c.args.frame c.args.size c.read_u64-oldest.result c.len-count.result c.requires.pipe c.read_u64-oldest.ensures c.len-count.ensures.value
    (omega (arith, c.requires.there, c.len-count.ensures.value)) c.write_u64.ensures c.write_u64-2.ensures
