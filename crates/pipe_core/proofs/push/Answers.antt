use Rattle.std.proofs.Common.{refl}
use Rattle.pipe_core.proofs.Changes.{pushes_to}
use Rattle.pipe_core.proofs.push.Goals as goal

pub returns-clause-pipe : goal.returns-clause-pipe
returns-clause-pipe c = pushes_to c.args.ram.now _ c.write_u64.new.self c.args.frame c.min-moved.result c.read_u64-oldest.result c.len-count.result _
    c.frame_mut.result.now c.put_bytes.new.frame c.args.bytes.now
    c.requires refl c.read_u64-oldest.ensures c.len-count.ensures.value c.min-moved.ensures c.frame_mut.ensures.value refl c.put_bytes.ensures c.write_u64.ensures
