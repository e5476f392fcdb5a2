use Rattle.std.proofs.Common.{◌≡◌}
use Rattle.xv_live.specs.Keeps.{GoesOn, IsKept}
use Rattle.terminal_session.specs.Stretches.{Lives}
use Rattle.terminal_session.proofs.conversing.converse.Given as goal

abbrev pub invariant-turns : goal.invariant-turns
invariant-turns g l =
    Lives g.H.Patience.may_end l.fn.debugger.plan l.fn.session l.session (g.W.ByteSink.sink l.fn.screen.sink).held (g.W.ByteSink.sink l.screen.sink).held
    × (l.debugger.plan ≡ l.fn.debugger.plan)
    × (IsKept g.F.RecordFile.held l.fn.recorder l.fn.session.events → IsKept g.F.RecordFile.held l.recorder l.session.events)
    × GoesOn l.fn.recorder l.recorder
