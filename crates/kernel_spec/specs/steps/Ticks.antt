-- Ticks of the clock: how many have passed, and whether these are as many as a call of sleep asks for.
use Rattle.std.specs.Prelude.{ℕ, ◌+◌, ◌-◌, ◌%◌, ℤ, pos, negsuc, Bool, true, nat_le}
use Rattle.kernel_spec.specs.views.Words.{CLOCK_ROUND}

-- how many ticks have passed since a time, by the clock
abbrev pub ticks_since : (clock since : ℕ) → ℕ
ticks_since clock since = (clock + CLOCK_ROUND - since) % CLOCK_ROUND

-- so many ticks have passed, of as many as are asked for; none are asked for below 0
abbrev pub has_passed : (passed : ℕ) → (asked : ℤ) → Bool
has_passed passed (pos n) = nat_le n passed
has_passed passed (negsuc k) = true
