-- What is true of a kernel and its hart from the making of the kernel on, before and after each step, turn and tick.
use Rattle.std.specs.Prelude.{◌≡◌, ℕ, ◌<◌, true, false, List, Option, Some, None, length}
use Rattle.xk_base.specs.declared.limits.TheConstants.{NPROC, NOFILE}
use Rattle.xk_base.specs.Words.{count_below}
use Rattle.hart_core.specs.declared.hart.Hart.{Hart}
use Rattle.file_table.specs.Named.{named_by, none_named}
use Rattle.file_table.specs.OpenFiles as files
use Rattle.file_table.specs.OpenFiles.{count_at}
use Rattle.file_table.specs.declared.open_file.CountedFile.{CountedFile}
use Rattle.proc_table.specs.Processes.{channel_of}
use Rattle.proc_table.specs.Slots.{Slots, Holds, place_at, place_is_live, descriptors_at}
use Rattle.proc_table.specs.declared.channel.Channel.{Channel}
use Rattle.proc_table.specs.declared.process.Process.{Process}
use Rattle.kernel_spec.specs.views.Words.{or_zero}
use Rattle.kernel_spec.specs.views.Words.{is_this}
use Rattle.kernel_spec.specs.views.Processes.{Live}
use Rattle.kernel_spec.specs.views.State.{live}
use Rattle.kernel_spec.specs.views.WellFormed.{WellFormed, sum_below}
use Rattle.kernel_spec.specs.waking.Wakes.{NoReadySleeper}
use Rattle.kernel_spec.specs.waking.Conditions.{waits_for}
use Rattle.kcall_core.specs.Kernel.{frame_count, state_of, IsSound}
use Rattle.kcall_core.specs.Machine.{world_of}
use Rattle.kcall_core.specs.Buffers.{KeepBuffers}
use Rattle.kcall_core.specs.declared.kernel.Kernel.{Kernel}
use Rattle.kernel_spec.specs.waking.SleepsOn.{is_for}

-- ---- open files and the descriptors that name them

-- how many descriptors of a process name an open file
abbrev pub named_in : List (Option ℕ) → ℕ → ℕ
named_in descriptors file = count_below (λ d. is_this file (named_by descriptors d)) NOFILE

-- and over all slots
abbrev pub namings : Slots → ℕ → ℕ
namings t file = sum_below NPROC (λ slot. named_in (descriptors_at t slot) file)

-- each open file counts the descriptors that name it, and only live processes have descriptors in use
pub record AreCounted (files : List (Option CountedFile)) (t : Slots) : Type 0 where
  pub counts : (file : ℕ) → or_zero (count_at files file) ≡ namings t file
  pub lists : (slot : ℕ) → slot < NPROC → length (descriptors_at t slot) ≡ NOFILE
  pub closed : (slot : ℕ) → place_is_live (place_at t slot) ≡ false → descriptors_at t slot ≡ none_named

-- ---- sleepers

-- who sleeps does so on the channel of what its call waits for
abbrev pub SleepOnTheirChannels : Kernel → Hart → Type 0
SleepOnTheirChannels k h =
    (slot : ℕ) (p : Process) (l : Live) (channel : Channel) → Holds k.table slot p → live (state_of k h) p.pid ≡ Some l → channel_of p ≡ Some channel
    → is_for (waits_for (state_of k h) p.pid l) channel ≡ true

-- ---- all of it

pub record IsWhole (k : Kernel) (h : Hart) : Type 0 where
  -- each frame has one owner, and the hart runs the process that runs
  pub sound : IsSound k h
  pub well : WellFormed (frame_count k) (state_of k h)
  pub files : files.IsTable k.files
  pub counted : AreCounted k.files k.table
  pub channels : SleepOnTheirChannels k h
  -- the process that runs doesn't sleep
  pub awake : (slot : ℕ) (p : Process) → k.current ≡ Some slot → Holds k.table slot p → channel_of p ≡ None
  -- no process sleeps that could go on
  pub unready : NoReadySleeper (world_of k h None)
  -- a read or a write in progress that has moved bytes still has its whole buffer
  pub buffers : KeepBuffers (state_of k h)
