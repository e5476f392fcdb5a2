use Rattle.kcall_core.proofs.Prelude.{ℕ, ◌%◌, ◌-◌, ◌<◌, ◌≡◌, IsOffTheWay}
use Rattle.kcall_core.proofs.memories.frame_roles.role_below.Given as goal

abbrev pub invariant-tables : goal.invariant-tables
invariant-tables l = record {
  whole : l.page % 512 ≡ 0;
  off : (u : ℕ) → u < l.page → u < l.end → IsOffTheWay l.ram l.root l.frame u;
}

abbrev pub decreases-tables : goal.decreases-tables
decreases-tables l = l.end - l.page
