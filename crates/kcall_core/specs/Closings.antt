-- A process that runs closes descriptors: what is left of the kernel, and who wakes.
use Rattle.std.specs.Prelude.{◌≡◌, ℕ, ◌+◌, ◌&&◌, Bool, if◌then◌else◌, Option, None, Some, nat_lt, option_map}
use Rattle.std.specs.FinMap.{get}
use Rattle.xk_base.specs.declared.limits.TheConstants.{NOFILE}
use Rattle.hart_core.specs.declared.hart.Hart.{Hart}
use Rattle.file_table.specs.OpenFiles as files
use Rattle.file_table.specs.OpenFiles.{open_file_at}
use Rattle.file_table.specs.declared.open_file.End.{End}
use Rattle.file_table.specs.declared.open_file.End.TheVariants.{Reading, Writing}
use Rattle.file_table.specs.declared.open_file.OpenFile.{OpenFile}
use Rattle.file_table.specs.declared.open_file.Target.{Target}
use Rattle.proc_table.specs.Channels.{same_channel}
use Rattle.proc_table.specs.Processes.{woken}
use Rattle.proc_table.specs.Slots.{Slots, place_at, each_changed}
use Rattle.proc_table.specs.declared.channel.Channel.{Channel}
use Rattle.proc_table.specs.declared.channel.Channel.TheVariants as on
use Rattle.proc_table.specs.declared.process.Process.{Process}
use Rattle.proc_table.specs.declared.process.State as table
use Rattle.proc_table.specs.declared.process.State.TheVariants.{Live as Live_state, Zombie as Zombie_state}
use Rattle.kernel_spec.specs.views.PipeEnds.{count_on}
use Rattle.kernel_spec.specs.views.View.{or_gone}
use Rattle.kernel_spec.specs.steps.Updates.{fewer_on, freed_on, fewer_on_all, freed_on_all, changed_state, with_closed, end_of}
use Rattle.kernel_spec.specs.views.WellFormed.{WellFormed}
use Rattle.kcall_core.specs.Kernel.{frame_count, state_of, IsSound, IsRunning, pid_now, live_now}
use Rattle.kcall_core.specs.Whole.{AreCounted}
use Rattle.kcall_core.specs.declared.kernel.Kernel.{Kernel}
use Rattle.kernel_spec.specs.waking.SleepsOn.{closes_wake}

-- ---- who wakes

-- what those sleep on who wait at the other end of a pipe
abbrev pub across : ℕ → End → Channel
across i Reading = on.Room i
across i Writing = on.Bytes i

-- what is slept on still, where those wake whose channel is one of these
abbrev pub unless_woken : (Channel → Bool) → Option Channel → Option Channel
unless_woken wakes None = None
unless_woken wakes (Some channel) = if wakes channel then None else Some channel

abbrev pub state_woken_by : (Channel → Bool) → table.State → table.State
state_woken_by wakes (Live_state life) = Live_state (record life { channel = unless_woken wakes life.channel })
state_woken_by wakes (Zombie_state status) = Zombie_state status

-- awake, if it sleeps on one of these channels
abbrev pub woken_by : (Channel → Bool) → Process → Process
woken_by wakes p = record p { state = state_woken_by wakes p.state }

-- all on a channel, where that is due, and else none
abbrev pub wakes_if : Bool → Channel → Channel → Bool
wakes_if is_due on channel = is_due && same_channel channel on

-- the parent of a process that ends wakes where it waits for a child, if there is one
abbrev pub parent_woken : Option ℕ → Slots → Slots
parent_woken None t = t
parent_woken (Some parent) t = each_changed (woken (on.Children parent)) t

-- ---- what is left

-- true while a process closes descriptors: all that is whole, but for the sleepers
pub record IsClosing (k : Kernel) (h : Hart) : Type 0 where
  pub sound : IsSound k h
  pub running : IsRunning k
  pub well : WellFormed (frame_count k) (state_of k h)
  pub files : files.IsTable k.files
  pub counted : AreCounted k.files k.table

-- what stays of a kernel whose process closes descriptors. Open files may go, but none is another; an end of a pipe that nobody is on stays so; and those wake who wait at the other end of one that nobody is on any more
pub record Remains (k : Kernel) (h : Hart) (k' : Kernel) : Type 0 where
  pub current : k'.current ≡ k.current
  pub last : k'.table.last ≡ k.table.last
  pub frames : frame_count k' ≡ frame_count k
  pub files : (file : ℕ) (x : OpenFile) → open_file_at k'.files file ≡ Some x → open_file_at k.files file ≡ Some x
  pub ends : (i : ℕ) (end : End) → count_on end (or_gone (get (state_of k h).pipes i)) ≡ 0 → count_on end (or_gone (get (state_of k' h).pipes i)) ≡ 0
  pub places : (slot : ℕ) → place_at k'.table slot ≡ option_map (woken_by (closes_wake (state_of k h).pipes (state_of k' h).pipes)) (place_at k.table slot)

-- what this descriptor of the process that runs is
abbrev pub target_now : Kernel → Hart → ℕ → Option Target
target_now k h d = end_of (state_of k h) (get (live_now k h).descriptors d)

-- the process that runs has closed this descriptor
pub record Closes (k : Kernel) (h : Hart) (d : ℕ) (k' : Kernel) : Type 0 where
  pub after : IsClosing k' h
  pub remains : Remains k h k'
  pub state : let s = state_of k h in let target = target_now k h d in
      state_of k' h ≡ changed_state (pid_now k) (with_closed d (live_now k h)) (state_of k' h).files (fewer_on target s.pipes) s.console (s.free + freed_on target s.pipes) s

-- it has closed all descriptors from n on
pub record ClosesFrom (k : Kernel) (h : Hart) (n : ℕ) (k' : Kernel) : Type 0 where
  pub after : IsClosing k' h
  pub remains : Remains k h k'
  pub descriptors : (d : ℕ) → get (live_now k' h).descriptors d ≡ (if nat_lt d n then get (live_now k h).descriptors d else None)
  pub state : let s = state_of k h in let t = state_of k' h in
      t ≡ changed_state (pid_now k) (record (live_now k h) { descriptors = (live_now k' h).descriptors }) t.files t.pipes s.console t.free s
  pub pipes : let s = state_of k h in let l = live_now k h in fewer_on_all s l n (state_of k' h).pipes ≡ fewer_on_all s l NOFILE s.pipes
  pub free : let s = state_of k h in let t = state_of k' h in let l = live_now k h in t.free + freed_on_all s l n t.pipes ≡ s.free + freed_on_all s l NOFILE s.pipes
