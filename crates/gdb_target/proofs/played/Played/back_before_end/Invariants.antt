use Rattle.std.proofs.Common.{◌≡◌, ◌≤◌, length}
use Rattle.std.specs.Prelude.{◌⊎◌}
use Rattle.gdb_target.specs.SameRun.{IsFollowedByEnd, beginning}
use Rattle.gdb_target.proofs.played.Played.back_before_end.Given as goal

abbrev pub invariant-ends : goal.invariant-ends
invariant-ends l = record {
  there : (l.self.session ≡ l.fn.self.session) ⊎ IsFollowedByEnd l.self;
  within : length l.self.session.events ≤ length l.fn.self.session.events;
  same : beginning l.self ≡ beginning l.fn.self;
}

abbrev pub decreases-ends : goal.decreases-ends
decreases-ends l = length l.self.session.events
