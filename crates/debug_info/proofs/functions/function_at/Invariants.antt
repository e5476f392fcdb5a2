use Rattle.debug_info.proofs.Prelude.{◌≤◌, IfSome}
use Rattle.debug_info.proofs.functions.function_at.Given as goal

abbrev pub invariant-loop-number : goal.invariant-loop-number
invariant-loop-number l = IfSome l.found (λ function. function.low ≤ l.address)
