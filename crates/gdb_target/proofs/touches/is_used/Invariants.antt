use Rattle.std.proofs.Common.{◌≡◌, false}
use Rattle.std.specs.List.{list_any}
use Rattle.gdb_target.specs.Touches.{addresses_from, has}
use Rattle.gdb_target.proofs.touches.is_used.Given as goal

abbrev pub invariant-loop-place : goal.invariant-loop-place
invariant-loop-place l = list_any (has l.access) (addresses_from l.watched.address l.place) ≡ false
