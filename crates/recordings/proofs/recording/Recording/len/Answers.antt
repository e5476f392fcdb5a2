use Rattle.std.proofs.Common.{ap, arith, length}
use Rattle.recordings.proofs.Halving.{long}
use Rattle.recordings.proofs.recording.Recording.len.Goals as goal

pub returns : goal.returns
returns c = omega (arith, c.self.invariant.1, long 0 c.self.inside.stretches.items c.self.invariant.0, ap length c.self.view_is)
