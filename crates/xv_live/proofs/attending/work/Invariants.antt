use Rattle.std.proofs.Common.{[]}
use Rattle.xv_live.specs.Attends.{Types}
use Rattle.xv_live.proofs.attending.work.Given as goal

abbrev pub invariant-runs : goal.invariant-runs
invariant-runs g l = Types [] l.fn.session l.session (g.W.ByteSink.sink l.fn.screen.sink).held (g.W.ByteSink.sink l.screen.sink).held
