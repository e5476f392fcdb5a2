use Rattle.std.proofs.Common.{◌≡◌, ◌++◌}
use Rattle.gdb_target.specs.Touches.{addresses_from}
use Rattle.gdb_target.proofs.fast.rows.push_addresses.Given as goal

abbrev pub invariant-loop-place : goal.invariant-loop-place
invariant-loop-place l = l.addresses.items ≡ l.fn.addresses.items ++ addresses_from l.watched.address l.place
