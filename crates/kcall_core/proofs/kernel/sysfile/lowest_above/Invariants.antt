use Rattle.kcall_core.proofs.Prelude.{◌&&◌, ◌≡◌, descriptors_at, is_none, least_below, named_by, nat_lt, None}
use Rattle.kcall_core.proofs.kernel.sysfile.lowest_above.Given as goal

-- no number so far is free and above it
abbrev pub invariant-loop-number : goal.invariant-loop-number
invariant-loop-number l = least_below (λ d. nat_lt l.low d && is_none (named_by (descriptors_at l.table l.slot) d)) l.number ≡ None
