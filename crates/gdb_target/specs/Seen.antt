-- What GDB is told of processes, registers and memory.
use Rattle.std.specs.Prelude.{◌≡◌, ℕ, zero, suc, ◌+◌, ◌%◌, ◌^◌, ◌<◌, ◌⊎◌, ◌==◌, nat_lt, if◌then◌else◌, min, List, [], ◌++◌, length, slice_index, Option, Some, None, IsSome}
use Rattle.std.specs.List.{All, Contains}
use Rattle.std.specs.Int.{w64, to_le_bytes}
use Rattle.rv64i_core.specs.Registers.{Registers, reg}
use Rattle.xk_base.specs.declared.limits.TheConstants.{PID_MAX}
use Rattle.kernel_spec.specs.runs.Run.{World}
use Rattle.kernel_spec.specs.views.State.{State, live}
use Rattle.kernel_spec.specs.waking.Turns.{HasSlot}
use Rattle.kcall_core.specs.Observers.{byte_at}

-- ---- processes

-- all of these are pids of live processes
abbrev pub AreLive : State → List ℕ → Type 0
AreLive s pids = All (λ p. IsSome (live s p)) pids

-- and each live process is among them
abbrev pub AreAllLive : State → List ℕ → Type 0
AreAllLive s pids = (p : ℕ) → IsSome (live s p) → Contains pids p

-- these are the live processes in the slots below a number
pub record AreLiveBelow (w : World) (below : ℕ) (pids : List ℕ) : Type 0 where
  pub live_are : AreLive w.state pids
  pub all : (p slot : ℕ) → HasSlot w.turns p slot → slot < below → IsSome (live w.state p) → Contains pids p

-- no live process has this number: none has it, or it is out of the range of pids
abbrev pub IsNoThread : State → ℕ → Type 0
IsNoThread s thread = (live s thread ≡ None) ⊎ (thread ≡ 0) ⊎ (PID_MAX < thread)

-- ---- registers

-- what the register of GDB's number holds: x0 to x31, and 32 is the pc
abbrev pub held : Registers → ℕ → Option ℕ
held regs number = if number == 32 then Some regs.pc else (if nat_lt number 32 then Some (reg regs number) else None)

-- eight bytes, the lowest first
abbrev pub word_bytes : Option ℕ → List ℕ
word_bytes None = []
word_bytes (Some value) = to_le_bytes w64 value

-- the bytes of the registers below a number, in the order of their numbers
abbrev pub bytes_below : Registers → ℕ → List ℕ
bytes_below regs zero = []
bytes_below regs (suc n) = bytes_below regs n ++ word_bytes (held regs n)

-- ---- memory

-- These are bytes of a process's memory from an address on: so many, 1,024 at most, or fewer up to the first that isn't there
pub record AreTheBytes (s : State) (p address size : ℕ) (bytes : List ℕ) : Type 0 where
  pub each : (k : ℕ) → k < length bytes → byte_at s p ((address + k) % 2 ^ 64) ≡ Some (slice_index bytes k)
  pub all : (length bytes ≡ min size 1024) ⊎ (byte_at s p ((address + length bytes) % 2 ^ 64) ≡ None)
