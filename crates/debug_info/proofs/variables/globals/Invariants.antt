use Rattle.debug_info.proofs.Prelude.{◌≤◌, vec_len}
use Rattle.debug_info.proofs.variables.globals.Given as goal

abbrev pub invariant-loop-number : goal.invariant-loop-number
invariant-loop-number l = vec_len l.found ≤ 512
