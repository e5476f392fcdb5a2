use Rattle.std.proofs.Common.{◌≤◌, [], ◌∷◌}
use Rattle.hart_core.proofs.Saved.{SavedBelow}
use Rattle.hart_core.proofs.saving.write_registers.Given as goal

abbrev pub invariant-loop-i : goal.invariant-loop-i
invariant-loop-i l = (1 ≤ l.i) × SavedBelow (l.fn.bytes ∷ []) (l.bytes ∷ []) 0 l.regs l.i
