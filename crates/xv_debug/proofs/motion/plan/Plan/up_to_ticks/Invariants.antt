use Rattle.std.proofs.Common.{◌+◌, ◌-◌, ◌≤◌, ◌≡◌, drop, length}
use Rattle.xv_debug.specs.motion.Clock.{events_to_tick}
use Rattle.xv_debug.proofs.motion.plan.Plan.up_to_ticks.Given as goal

-- it has not gone back, and what it has passed is the way to the Ticks that are left
abbrev pub invariant-stretches : goal.invariant-stretches
invariant-stretches l = (l.place ≤ l.at) × ((l.at - l.place) + events_to_tick l.left (drop l.at l.self.recorded) ≡ events_to_tick l.ticks (drop l.place l.self.recorded))

abbrev pub decreases-stretches : goal.decreases-stretches
decreases-stretches l = length l.self.recorded - l.at
