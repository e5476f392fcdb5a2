-- The bytes of one register more.
use Rattle.std.proofs.Common.{◌≡◌, ℕ, ◌+◌, ◌++◌, ap, add-one}
use Rattle.rv64i_core.specs.Registers.{Registers}
use Rattle.gdb_target.specs.Seen.{held, word_bytes, bytes_below}

pub below_next : (regs : Registers) (n : ℕ) → bytes_below regs (n + 1) ≡ bytes_below regs n ++ word_bytes (held regs n)
below_next regs n = ap (bytes_below regs) (add-one n)
