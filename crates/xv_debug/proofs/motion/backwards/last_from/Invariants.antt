use Rattle.std.proofs.Common.{◌-◌, ◌≤◌}
use Rattle.xv_debug.specs.motion.Backwards.{LookedTo}
use Rattle.xv_debug.proofs.motion.backwards.last_from.Given as goal

abbrev pub invariant-spans : goal.invariant-spans
invariant-spans g l = (l.begin ≤ l.place) × (l.place ≤ l.end) × LookedTo l.aim l.begin l.place l.session l.machine l.found

abbrev pub decreases-spans : goal.decreases-spans
decreases-spans g l = l.end - l.place
