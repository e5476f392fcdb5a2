use Rattle.std.proofs.Common.{◌≡◌, ◌+◌, ◌-◌, ◌≤◌, drop, length, replicate, take}
use Rattle.xv_machine.specs.Events.{event_of}
use Rattle.recordings.proofs.recording.Recording.has.Given as goal

-- those before the place that is looked at are equal, and so many are left
abbrev pub invariant-stretches : goal.invariant-stretches
invariant-stretches l =
    (l.place ≤ l.at) × (l.at + l.left ≡ l.place + l.count) × (l.at ≤ length l.self)
    × (take (l.at - l.place) (drop l.place l.self) ≡ replicate (l.at - l.place) (event_of l.event))

abbrev pub decreases-stretches : goal.decreases-stretches
decreases-stretches l = l.left
