use Rattle.dwarf.proofs.Prelude.{◌≡◌, ◌≤◌, drop, groups, length}
use Rattle.dwarf.proofs.bytes.groups.Given as goal

abbrev pub invariant-groups : goal.invariant-groups
invariant-groups l = (l.left ≤ length l.written) × (l.number ≡ groups l.is_negative (drop l.left l.written))

abbrev pub decreases-groups : goal.decreases-groups
decreases-groups l = l.left
