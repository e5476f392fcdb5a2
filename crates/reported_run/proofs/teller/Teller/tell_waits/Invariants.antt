use Rattle.std.proofs.Common.{◌≡◌}
use Rattle.reported_run.proofs.teller.Teller.tell_waits.Given as goal

abbrev pub invariant-loop-slot : goal.invariant-loop-slot
invariant-loop-slot g l = l.self.ends ≡ l.initial.self.ends
