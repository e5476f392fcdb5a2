use Rattle.std.proofs.Common.{◌≡◌}
use Rattle.reported_run.proofs.teller.Teller.note_runs.Given as goal

abbrev pub invariant-loop : goal.invariant-loop
invariant-loop g l = l.self.ends ≡ l.initial.self.ends
