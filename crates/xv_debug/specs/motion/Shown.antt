-- What the console shows, as far as it is kept.
use Rattle.std.specs.Prelude.{◌≡◌, ◌≤◌, ◌+◌, ◌-◌, ℕ, List, ◌++◌, length}
use Rattle.circular_buffer.specs.Buffer.{keep_last, buffer}
use Rattle.xv_debug.specs.declared.motion.output.Output.{Output}

-- These bytes came behind the others; the last ones are kept, and all are counted, as far as 64 bits count
pub record KeepsShown (shown : List ℕ) (old new : Output) : Type 0 where
  pub kept : new.last ≡ buffer (keep_last old.last.capacity (old.last.items ++ shown)) old.last.capacity
  pub counted : length shown ≤ 18446744073709551615 - old.count → new.count ≡ old.count + length shown
