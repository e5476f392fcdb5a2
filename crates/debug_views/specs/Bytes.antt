-- Bytes of a process's memory, as they are shown.
use Rattle.std.specs.Prelude.{ℕ, ◌+◌, ◌^◌, nat_lt, if◌then◌else◌, Option, None}
use Rattle.kernel_spec.specs.views.State.{State}
use Rattle.kcall_core.specs.Observers.{byte_at}

-- the byte so far behind an address; none where it isn't there, and behind 2^64
abbrev pub byte_behind : State → (p address place : ℕ) → Option ℕ
byte_behind s p address place = if nat_lt (address + place) (2 ^ 64) then byte_at s p (address + place) else None
