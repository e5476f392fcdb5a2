use Rattle.std.proofs.Common.{◌-◌, ◌≤◌, replicate}
use Rattle.xv_machine.specs.Events.{event_of}
use Rattle.xv_session.specs.Follows.{Follows}
use Rattle.xv_session.proofs.playing.send_often.Given as goal

abbrev pub invariant-sends : goal.invariant-sends
invariant-sends g l = (l.left ≤ l.count) × Follows (replicate (l.count - l.left) (event_of l.event)) l.fn.followed l.followed

abbrev pub decreases-sends : goal.decreases-sends
decreases-sends g l = l.left
