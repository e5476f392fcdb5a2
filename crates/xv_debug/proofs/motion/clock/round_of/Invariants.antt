use Rattle.std.proofs.Common.{◌≤◌, length}
use Rattle.xv_debug.proofs.Clocked.{IsCounted}
use Rattle.xv_debug.proofs.motion.clock.round_of.Given as goal

abbrev pub invariant-events : goal.invariant-events
invariant-events l = (l.end ≤ length l.session.events) × IsCounted l.plan.quantum l.round l.end l.session.events

abbrev pub decreases-events : goal.decreases-events
decreases-events l = l.end
