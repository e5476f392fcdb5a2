use Rattle.std.proofs.Common.{◌≡◌}
use Rattle.xv_debug.specs.Conversations.{Converses}
use Rattle.xv_live.specs.Keeps.{GoesOn, IsKept}
use Rattle.terminal_session.proofs.stopping.stop.Given as goal

abbrev pub invariant-lines : goal.invariant-lines
invariant-lines g l = Converses g.H.Patience.may_end l.fn.debugger.plan l.fn.session l.session × (l.debugger.plan ≡ l.fn.debugger.plan)
    × (IsKept g.F.RecordFile.held l.fn.recorder l.fn.session.events → IsKept g.F.RecordFile.held l.recorder l.session.events) × GoesOn l.fn.recorder l.recorder
