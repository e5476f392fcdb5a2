use Rattle.debug_views.proofs.Least.{IsLeast}
use Rattle.debug_views.proofs.Uses.{IsLowerAt}
use Rattle.debug_views.proofs.frame_uses.next_lower.Given as goal

abbrev pub invariant-loop-frame : goal.invariant-loop-frame
invariant-loop-frame l = IsLeast (IsLowerAt l.uses l.owner l.from) l.frame l.least
