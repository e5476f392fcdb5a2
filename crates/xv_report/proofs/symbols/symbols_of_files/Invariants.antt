use Rattle.std.proofs.Common.{◌≡◌, length}
use Rattle.xv_report.proofs.symbols.symbols_of_files.Given as goal

-- one for each path so far
abbrev pub invariant-loop-path : goal.invariant-loop-path
invariant-loop-path g l = length l.symbols.items ≡ l.path-index
