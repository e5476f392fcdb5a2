use Rattle.std.proofs.Common.{◌≡◌, ◌-◌, ◌≤◌, length, max}
use Rattle.gdb_target.specs.SameRun.{beginning}
use Rattle.gdb_target.proofs.played.Played.go_on_to.Given as goal

abbrev pub invariant-events : goal.invariant-events
invariant-events l = (beginning l.self ≡ beginning l.initial.self) × (length l.initial.self.session.events ≤ length l.self.session.events)
    × (length l.self.session.events ≤ max l.place (length l.initial.self.session.events))

abbrev pub decreases-events : goal.decreases-events
decreases-events l = l.place - length l.self.session.events
