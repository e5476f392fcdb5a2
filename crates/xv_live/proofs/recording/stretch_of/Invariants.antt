use Rattle.std.proofs.Common.{◌≡◌, ◌++◌, ◌-◌, ◌≤◌, take, length}
use Rattle.xv_live.specs.Plays.{events_of_lines}
use Rattle.xv_live.proofs.recording.stretch_of.Given as goal

abbrev pub invariant-spans : goal.invariant-spans
invariant-spans l = (l.place ≤ length l.session.events) × (take l.from l.session.events ++ events_of_lines l.lines.items ≡ take l.place l.session.events)

abbrev pub decreases-spans : goal.decreases-spans
decreases-spans l = length l.session.events - l.place
