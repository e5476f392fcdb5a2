use Rattle.std.proofs.Common.{◌≤◌}
use Rattle.xv_debug.proofs.motion.lines.line_begin.Given as goal

abbrev pub invariant-loop : goal.invariant-loop
invariant-loop l = l.first ≤ l.address
