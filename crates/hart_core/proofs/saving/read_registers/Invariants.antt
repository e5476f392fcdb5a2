use Rattle.std.proofs.Common.{◌≤◌, [], ◌∷◌}
use Rattle.hart_core.proofs.Saved.{RestoredBelow}
use Rattle.hart_core.proofs.saving.read_registers.Given as goal

abbrev pub invariant-loop-i : goal.invariant-loop-i
invariant-loop-i l = (1 ≤ l.i) × RestoredBelow (l.bytes ∷ []) 0 l.regs l.i
