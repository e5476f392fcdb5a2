use Rattle.std.proofs.Common.{arith, length, take, drop}
use Rattle.std.proofs.lemmas.List.{length-take-le}
use Rattle.pipe_core.proofs.Changes.{pulls_to, pulls_bytes}
use Rattle.pipe_core.proofs.pull.Goals as goal

pub returns-clause-bytes : goal.returns-clause-bytes
returns-clause-bytes c = pulls_bytes c.args.ram.now c.args.frame c.min-moved.result c.read_u64-oldest.result c.len-count.result
    (length (take c.min-moved.result c.args.bytes.now)) c.frame.result.now c.get_bytes.new.bytes (drop c.min-moved.result c.args.bytes.now)
    c.read_u64-oldest.ensures c.len-count.ensures.value (omega (arith, c.min-moved.ensures)) c.frame.ensures
    (length-take-le c.min-moved.result c.args.bytes.now (omega (arith, c.min-moved.ensures))) c.get_bytes.ensures

pub returns-clause-pipe : goal.returns-clause-pipe
returns-clause-pipe c = pulls_to c.args.ram.now _ c.write_u64-2.new.self c.args.frame c.min-moved.result c.read_u64-oldest.result c.len-count.result
    c.requires c.read_u64-oldest.ensures c.len-count.ensures.value (omega (arith, c.min-moved.ensures)) c.write_u64.ensures c.write_u64-2.ensures
