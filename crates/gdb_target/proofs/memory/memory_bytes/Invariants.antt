use Rattle.std.proofs.Common.{◌≡◌, ℕ, ◌+◌, ◌%◌, ◌^◌, ◌<◌, length, get_or, Some}
use Rattle.kcall_core.specs.Observers.{byte_at}
use Rattle.gdb_target.proofs.memory.memory_bytes.Given as goal

abbrev pub invariant-loop-place : goal.invariant-loop-place
invariant-loop-place l =
    (length l.bytes.items ≡ l.place) × ((k : ℕ) → k < l.place → byte_at l.machine.world.state l.pid ((l.address + k) % 2 ^ 64) ≡ Some (get_or l.bytes.items k 0))
