use Rattle.std.proofs.Common.{◌≡◌}
use Rattle.gdb_target.specs.Seen.{bytes_below}
use Rattle.gdb_target.proofs.memory.register_bytes.Given as goal

abbrev pub invariant-loop-number : goal.invariant-loop-number
invariant-loop-number l = l.bytes.items ≡ bytes_below l.regs l.number
