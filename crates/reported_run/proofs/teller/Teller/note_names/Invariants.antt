use Rattle.std.proofs.Common.{◌≡◌}
use Rattle.reported_run.proofs.teller.Teller.note_names.Given as goal

abbrev pub invariant-loop-named : goal.invariant-loop-named
invariant-loop-named g l = l.self.ends ≡ l.initial.self.ends
