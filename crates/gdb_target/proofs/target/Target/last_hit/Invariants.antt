use Rattle.std.proofs.Common.{◌≡◌, ◌-◌, ◌≤◌, ℕ, length}
use Rattle.std.specs.Prelude.{IfSome}
use Rattle.gdb_target.specs.LastHit.{IsHitBefore, Looked}
use Rattle.gdb_target.specs.Choices.{choices}
use Rattle.gdb_target.specs.SameRun.{beginning}
use Rattle.gdb_target.proofs.target.Target.last_hit.Given as goal

abbrev pub invariant-places : goal.invariant-places
invariant-places l = record {
  within : length l.self.run.session.events ≤ l.end;
  hit : IfSome l.last (λ found. IsHitBefore l.back l.end found);
  last : (n : ℕ) × Looked l.back n l.fn.self l.self l.last;
  same : beginning l.self.run ≡ beginning l.fn.self.run;
  choices : choices l.self ≡ choices l.fn.self;
}

abbrev pub decreases-places : goal.decreases-places
decreases-places l = l.end - length l.self.run.session.events
