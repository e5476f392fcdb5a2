use Rattle.std.proofs.Common.{◌≡◌, ◌-◌, length, take}
use Rattle.xv_session.specs.Follows.{Follows}
use Rattle.xv_session.specs.Spans.{all_events}
use Rattle.xv_session.proofs.playing.play_first.Given as goal

abbrev pub invariant-loop-place : goal.invariant-loop-place
invariant-loop-place g l = (l.left ≡ l.most - length (all_events (take l.place l.spans))) × Follows (take l.most (all_events (take l.place l.spans))) l.fn.followed l.followed
