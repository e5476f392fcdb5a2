use Rattle.std.proofs.Common.{◌≡◌, []}
use Rattle.xv_live.specs.Keys.{Looks, waiting}
use Rattle.xv_live.proofs.attending.look.Given as goal

abbrev pub invariant-looks : goal.invariant-looks
invariant-looks g l = (g.W.ByteSink.sink l.screen.sink ≡ g.W.ByteSink.sink l.fn.screen.sink) × Looks [] (g.H.Host.coming l.fn.host) (g.H.Host.coming l.host) (waiting l.fn.pending) (waiting l.pending)
