use Rattle.std.proofs.Common.{rules}
use Rattle.frame_list.proofs.Pool.free.Goals as goal

pub returns : goal.returns
returns c = search rules
