use Rattle.std.proofs.Common.{◌-◌, ◌≤◌, length, take}
use Rattle.recordings.specs.Recording.{Begins}
use Rattle.recordings.proofs.beginning.is_beginning.Given as goal

-- the record begins with the events before the place that is looked at
abbrev pub invariant-rows : goal.invariant-rows
invariant-rows l = (l.place ≤ length l.session.events) × Begins l.recording (take l.place l.session.events)

abbrev pub decreases-rows : goal.decreases-rows
decreases-rows l = length l.session.events - l.place
