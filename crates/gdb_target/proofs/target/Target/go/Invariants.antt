use Rattle.std.proofs.Common.{◌≡◌, ◌-◌, ◌≤◌, ℕ, length, max}
use Rattle.gdb_target.specs.Choices.{choices}
use Rattle.gdb_target.specs.Forth.{Passed}
use Rattle.gdb_target.specs.SameRun.{beginning}
use Rattle.gdb_target.proofs.target.Target.go.Given as goal

abbrev pub invariant-events : goal.invariant-events
invariant-events l = record {
  within : length l.self.run.session.events ≤ max (length l.fn.self.run.session.events) l.going.end;
  passed : (n : ℕ) × Passed l.going.way n l.fn.self l.self;
  far : length l.fn.self.run.session.events ≤ length l.self.run.session.events;
  same : beginning l.self.run ≡ beginning l.fn.self.run;
  choices : choices l.self ≡ choices l.fn.self;
}

abbrev pub decreases-events : goal.decreases-events
decreases-events l = l.going.end - length l.self.run.session.events
