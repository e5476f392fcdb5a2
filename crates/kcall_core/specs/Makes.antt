-- What a step of the process that runs does to the kernel: it comes to what `own` says, and nothing else happens.
use Rattle.std.specs.Prelude.{◌≡◌, ℕ, zero, suc, ◌<◌, ℤ, Some, None}
use Rattle.std.specs.FinMap.{get}
use Rattle.rv64i_core.specs.Step.{stop_of}
use Rattle.rv64i_core.specs.declared.execution.Stop.{Stop}
use Rattle.rv64i_core.specs.declared.execution.Stop.TheVariants.{Next, Ecall, Fault}
use Rattle.hart_core.specs.declared.hart.Hart.{Hart}
use Rattle.kernel_spec.specs.rows.Touches.{instruction_now}
use Rattle.kernel_spec.specs.views.Processes.{Zombie}
use Rattle.kernel_spec.specs.views.View.{View, view_of}
use Rattle.kernel_spec.specs.steps.Own.{Own, Answer, Called, Blocked, Exited, gone_with}
use Rattle.kernel_spec.specs.steps.Step.{own}
use Rattle.kernel_spec.specs.steps.Cases.{After, IsBetweenCalls}
use Rattle.kernel_spec.specs.runs.Run.{Step_of, TurnsAfter, halts_with}
use Rattle.kernel_spec.specs.waking.Wakes.{WakesWhereDue}
use Rattle.kcall_core.specs.Kernel.{frame_count, state_of, IsRunning, pid_now, live_now}
use Rattle.kcall_core.specs.Machine.{turns_of, world_of}
use Rattle.kcall_core.specs.Whole.{IsWhole}
use Rattle.kcall_core.specs.declared.kernel.Kernel.{Kernel}
use Rattle.kcall_core.specs.declared.call_end.CallEnd.{CallEnd}
use Rattle.kcall_core.specs.declared.call_end.CallEnd.TheVariants.{Done, Wait, Gone}

-- what the process that runs sees
abbrev pub view_now : Kernel → Hart → View
view_now k h = view_of (state_of k h) (pid_now k) (live_now k h)

-- The process that runs has made a step, and it came to o: the state, who runs and sleeps, and who wakes are as they have to be
pub record Makes (k : Kernel) (h : Hart) (o : Own) (k' : Kernel) (h' : Hart) : Type 0 where
  pub whole : IsWhole k' h'
  pub state : After (state_of k h) (pid_now k) (live_now k h) o (state_of k' h')
  pub turns : TurnsAfter (turns_of k None) (pid_now k) o (turns_of k' (halts_with (pid_now k) o.answer))
  pub wakes : WakesWhereDue (world_of k h None) (Step_of (pid_now k) o.answer) (world_of k' h' (halts_with (pid_now k) o.answer))
  -- where the process is gone, its status is kept for its parent
  pub kept : (status : ℤ) → gone_with o.answer ≡ Some status → get (state_of k' h').processes (pid_now k) ≡ Some (Zombie (live_now k h).parent status)
  pub frames : frame_count k' ≡ frame_count k

-- nothing that can be seen is another
pub record Stays (k : Kernel) (h : Hart) (k' : Kernel) (h' : Hart) : Type 0 where
  pub whole : IsWhole k' h'
  pub world : world_of k' h' None ≡ world_of k h None
  pub frames : frame_count k' ≡ frame_count k

-- the process that ran runs, and is as it was
pub record StillRuns (k : Kernel) (h : Hart) (k' : Kernel) (h' : Hart) : Type 0 where
  pub running : IsRunning k'
  pub pid : pid_now k' ≡ pid_now k
  pub live : live_now k' h' ≡ live_now k h

-- what a step answers in which the call of this number ends so
abbrev pub answer_of : (number : ℤ) → CallEnd → Answer
answer_of number (Done value) = Called number value
answer_of number Wait = Blocked number
answer_of number (Gone status) = Exited status

-- ---- one instruction after another

-- how the next instruction of the process that runs ends
abbrev pub stop_now : Kernel → Hart → Stop
stop_now k h = stop_of (instruction_now (view_now k h))

-- so many instructions of the process that runs, one after another, each of which is done
abbrev pub MakesDone : (count : ℕ) → Kernel → Hart → Kernel → Hart → Type 0
MakesDone zero k h k' h' = (k' ≡ k) × (h' ≡ h)
MakesDone (suc count) k h k' h' =
    (mid : Kernel) × (between : Hart) × MakesDone count k h mid between
    × IsBetweenCalls (live_now mid between) × (stop_now mid between ≡ Next) × Makes mid between (own (view_now mid between)) k' h'

-- one more was tried, which isn't done, and changed nothing that can be seen
pub record IsUndone (most made : ℕ) (stop : Stop) (k : Kernel) (h : Hart) (k' : Kernel) (h' : Hart) : Type 0 where
  pub fewer : made < most
  pub ends : stop ≡ stop_now k h
  pub stays : Stays k h k' h'
  pub same : StillRuns k h k' h'

-- behind them all that were asked for are done, or one more was tried
abbrev pub IsLastMade : (most made : ℕ) → Stop → Kernel → Hart → Kernel → Hart → Type 0
IsLastMade most made Next k h k' h' = (made ≡ most) × (k' ≡ k) × (h' ≡ h)
IsLastMade most made Ecall k h k' h' = IsUndone most made Ecall k h k' h'
IsLastMade most made (Fault cause) k h k' h' = IsUndone most made (Fault cause) k h k' h'

-- instructions of the process that runs, one after another, up to the first that isn't done, so many at most
pub record MakesInARow (most made : ℕ) (stop : Stop) (k : Kernel) (h : Hart) (k' : Kernel) (h' : Hart) : Type 0 where
  pub mid : Kernel
  pub between : Hart
  pub done : MakesDone made k h mid between
  pub whole : IsWhole mid between
  pub running : IsRunning mid
  pub free : IsBetweenCalls (live_now mid between)
  pub last : IsLastMade most made stop mid between k' h'
