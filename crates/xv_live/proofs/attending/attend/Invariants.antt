use Rattle.std.proofs.Common.{[]}
use Rattle.xv_live.specs.Attends.{Attends}
use Rattle.xv_live.specs.Keeps.{GoesOn, IsKept}
use Rattle.xv_live.specs.Keys.{waiting}
use Rattle.xv_live.proofs.attending.attend.Given as goal

abbrev pub invariant-turns : goal.invariant-turns
invariant-turns g l = Attends [] l.fn.session l.session (g.W.ByteSink.sink l.fn.screen.sink).held (g.W.ByteSink.sink l.screen.sink).held
    (g.H.Host.coming l.fn.host) (g.H.Host.coming l.host) (waiting l.fn.pending) (waiting l.pending)
    × (IsKept g.F.RecordFile.held l.fn.recorder l.fn.session.events → IsKept g.F.RecordFile.held l.recorder l.session.events) × GoesOn l.fn.recorder l.recorder
