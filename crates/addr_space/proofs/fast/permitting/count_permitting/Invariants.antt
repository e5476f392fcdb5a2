use Rattle.addr_space.proofs.Prelude.{ℕ, ◌+◌, ◌<◌, ◌≡◌, entry_at, entry_permits, true}
use Rattle.addr_space.proofs.fast.permitting.count_permitting.Given as goal

abbrev pub invariant-loop-passed : goal.invariant-loop-passed
invariant-loop-passed l = (k : ℕ) → k < l.passed → entry_permits l.access (entry_at l.ram l.table (l.from + k)) ≡ true
