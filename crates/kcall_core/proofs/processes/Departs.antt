-- What a process that goes leaves in the kernel: the state without it, and who wakes.
use Rattle.kcall_core.proofs.Prelude.{ℕ, ℤ, ◌≡◌, ◌≢◌, AreCounted, Bool, Channel, channel_of, end_wakes, FilesLeft, FinMap, gone_state, Hart, Holds, IsSound, Kernel, length, live_now, nat_cmp, None}
use Rattle.kcall_core.proofs.Prelude.{OpenFile, Option, option_map, pid_now, place_at, Process, slot_now, Slots, Some, state_of, status_of}
use Rattle.file_table.specs.OpenFiles as files
pub use Rattle.kcall_core.specs.Closings.{unless_woken}
pub use Rattle.kernel_spec.specs.waking.SleepsOn.{last_closes, closes_wake}

-- ---- who wakes

-- what the turns see of a process: its pid, and what it sleeps on
abbrev pub seat : Process → ℕ × Option Channel
seat p = (p.pid, channel_of p)

abbrev pub seat_woken : (Channel → Bool) → Process → ℕ × Option Channel
seat_woken wakes p = (p.pid, unless_woken wakes (channel_of p))

-- In each slot but this one the process stays, and it wakes exactly where it sleeps on one of these channels
abbrev pub OthersWake : ℕ → (Channel → Bool) → Slots → Slots → Type 0
OthersWake slot wakes t u = (j : ℕ) → j ≢ slot → option_map seat (place_at u j) ≡ option_map (seat_woken wakes) (place_at t j)

-- ---- which channels an end wakes

-- ---- all of it

-- The process that ran is gone with a status, and those wake that sleep on one of these channels
pub record Departs (k : Kernel) (h : Hart) (k' : Kernel) (h' : Hart) (status : ℤ) (left : FinMap nat_cmp OpenFile) (wakes : Channel → Bool) : Type 0 where
  pub sound : IsSound k' h'
  pub stopped : k'.current ≡ None
  pub frames : length k'.memories.ram ≡ length k.memories.ram
  pub state : state_of k' h' ≡ gone_state (pid_now k) (live_now k h) status left (state_of k h)
  pub named : FilesLeft (state_of k h) (gone_state (pid_now k) (live_now k h) status left (state_of k h))
  pub files : files.IsTable k'.files
  pub counted : AreCounted k'.files k'.table
  pub last : k'.table.last ≡ k.table.last
  -- its own slot holds the zombie
  pub own : (p : Process) × Holds k'.table (slot_now k) p × (p.pid ≡ pid_now k) × (status_of p ≡ Some status)
  pub others : OthersWake (slot_now k) wakes k.table k'.table
  pub exactly : (channel : Channel) → wakes channel ≡ end_wakes (live_now k h).parent (state_of k h).pipes (state_of k' h').pipes channel
