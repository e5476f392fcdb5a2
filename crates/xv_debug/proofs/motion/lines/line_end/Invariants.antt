use Rattle.std.proofs.Common.{◌≤◌}
use Rattle.xv_debug.proofs.motion.lines.line_end.Given as goal

abbrev pub invariant-loop : goal.invariant-loop
invariant-loop l = l.address ≤ l.last
