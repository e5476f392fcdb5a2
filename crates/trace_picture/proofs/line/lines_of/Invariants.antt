use Rattle.std.proofs.Common.{Bor, List, ℕ, map}
use Rattle.trace_picture.specs.Remarks.{IsToldBy}
use Rattle.trace_picture.proofs.line.lines_of.Given as goal

abbrev pub invariant-loop-line : goal.invariant-loop-line
invariant-loop-line l = IsToldBy (map (λ line. line.now) l.yielded) l.told
