use Rattle.std.proofs.Common.{◌≡◌, ◌<◌, ◌≤◌, ◌-◌, drop, replicate, take}
use Rattle.xv_machine.specs.Events.{event_of}
use Rattle.xv_debug.proofs.motion.clock.equal_before.Given as goal

-- these are equal events up to the place
abbrev pub invariant-loop : goal.invariant-loop
invariant-loop l =
    (0 < l.found.count) × (l.found.count ≤ l.end)
    × (take l.found.count (drop (l.end - l.found.count) l.session.events) ≡ replicate l.found.count (event_of l.found.event))
