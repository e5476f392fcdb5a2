use Rattle.std.proofs.Common.{◌≡◌, take, flat_map}
use Rattle.gdb_target.specs.Touches.{addresses_of}
use Rattle.gdb_target.proofs.fast.rows.watched_bytes.Given as goal

abbrev pub invariant-loop-watched : goal.invariant-loop-watched
invariant-loop-watched l = l.addresses.items ≡ flat_map addresses_of (take l.watched-index l.all)
