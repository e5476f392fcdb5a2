use Rattle.std.proofs.Common.{◌<◌, ◌-◌}
use Rattle.xv_session.specs.Stops.{Unstopped}
use Rattle.xv_session.proofs.stops.run_to_stop.Given as goal

-- each of the Runs so far is a done instruction that leads to no stop, and there were fewer than all
abbrev pub invariant-runs : goal.invariant-runs
invariant-runs l = Unstopped l.addresses l.bytes l.sent l.fn.running l.running × (0 < l.sent → l.sent < l.most)

abbrev pub decreases-runs : goal.decreases-runs
decreases-runs l = l.most - l.sent
