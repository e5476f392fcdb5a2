use Rattle.pipe_core.proofs.Between.{pieces_copied}
use Rattle.std.proofs.Common.{refl}
use Rattle.pipe_core.proofs.fast.frames.copy_bytes.Goals as goal

pub returns-clause-copied : goal.returns-clause-copied
returns-clause-copied c =
    pieces_copied c.args.ram.now c.copy_part.new.self c.copy_rest.new.ram c.args.frame c.args.to c.read_u64-oldest.result _ c.args.skip c.args.at c.min-before.result c.args.size
    c.requires.pipe c.requires.to_in c.requires.apart c.copy_part.ensures.whole.0 c.copy_part.ensures.whole.1 c.read_u64-oldest.ensures c.requires.there refl c.min-before.ensures c.requires.at_in
    c.copy_part.ensures.copied c.copy_rest.ensures
