use Rattle.debug_views.proofs.Least.{IsLeast}
use Rattle.debug_views.proofs.Pids.{IsIn}
use Rattle.debug_views.proofs.focus.least_from.Given as goal

abbrev pub invariant-loop-slot : goal.invariant-loop-slot
invariant-loop-slot l = IsLeast (IsIn l.machine.world l.from) l.slot l.least
