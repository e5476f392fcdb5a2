use Rattle.debug_views.proofs.Uses.{UsesSoFar}
use Rattle.debug_views.proofs.frame_uses.uses_of.Given as goal

abbrev pub invariant-loop-number : goal.invariant-loop-number
invariant-loop-number l = UsesSoFar l.machine l.number l.uses.items
