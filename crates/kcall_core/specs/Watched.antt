-- Instructions of the process that runs that are done and use nothing that is watched.
use Rattle.std.specs.Prelude.{◌≡◌, ℕ, zero, suc, ◌<◌, ◌≤◌, Bool, true, false, List}
use Rattle.rv64i_core.specs.Registers.{Registers}
use Rattle.rv64i_core.specs.Step.{stop_of}
use Rattle.rv64i_core.specs.UserImage.{user}
use Rattle.rv64i_core.specs.declared.execution.Stop.TheVariants.{Next}
use Rattle.hart_core.specs.Watch.{IsUnwatched}
use Rattle.hart_core.specs.declared.hart.Hart.{Hart}
use Rattle.xk_base.specs.Image.{Image}
use Rattle.kernel_spec.specs.steps.Cases.{IsBetweenCalls}
use Rattle.kernel_spec.specs.steps.Instruction.{next_instruction}
use Rattle.kernel_spec.specs.steps.Step.{own}
use Rattle.kcall_core.specs.Holdings.{held_at}
use Rattle.kcall_core.specs.Kernel.{live_now}
use Rattle.kcall_core.specs.Makes.{Makes, view_now}
use Rattle.kcall_core.specs.Memories.{each_of, Steps, RunsIn}
use Rattle.kcall_core.specs.Whole.{IsWhole}
use Rattle.kcall_core.specs.declared.kernel.Kernel.{Kernel}
use Rattle.kcall_core.specs.declared.memories.Memories.{Memories}

-- the next instruction of a process is done, on the pages that are there, and uses nothing that is watched
pub record GoesUnwatched (addresses bytes : List ℕ) (regs : Registers) (image : Image) : Type 0 where
  pub spares : IsUnwatched addresses bytes regs (user image)
  pub done : stop_of (next_instruction regs image) ≡ Next

-- ---- in the memories

-- a hart has made such an instruction for the process in a slot; or its next one is no such, and nothing but what it keeps is another
abbrev pub StepsUnwatched : (addresses bytes : List ℕ) → (made : Bool) → Memories → Memories → (slot : ℕ) → Hart → Hart → Type 0
StepsUnwatched addresses bytes true old new slot hart hart' = GoesUnwatched addresses bytes hart.regs (held_at (each_of old) slot).image × Steps old new slot hart hart' Next
StepsUnwatched addresses bytes false old new slot hart hart' =
    (¬ GoesUnwatched addresses bytes hart.regs (held_at (each_of old) slot).image) × (new ≡ old) × (hart'.regs ≡ hart.regs) × RunsIn old slot hart'

-- the memories are the same, but for what is known of their code
pub record OnlyKnown (old new : Memories) : Type 0 where
  pub ram : new.ram ≡ old.ram
  pub pool : new.pool ≡ old.pool
  pub each : new.each.items ≡ old.each.items
  pub pipes : new.pipes.items ≡ old.pipes.items

-- so many such instructions of the process in a slot, one after another; if there are none, nothing is another but what is known of code and what the hart keeps
abbrev pub StepsDoneUnwatched : (addresses bytes : List ℕ) → (count slot : ℕ) → Memories → Hart → Memories → Hart → Type 0
StepsDoneUnwatched addresses bytes zero slot old hart new hart' = OnlyKnown old new × (hart'.regs ≡ hart.regs) × RunsIn new slot hart'
StepsDoneUnwatched addresses bytes (suc count) slot old hart new hart' =
    (mid : Memories) × (between : Hart) × StepsDoneUnwatched addresses bytes count slot old hart mid between × StepsUnwatched addresses bytes true mid new slot between hart'

-- ---- in the kernel

-- nothing is another but what is known of code and what the hart keeps
pub record OnlyKept (k : Kernel) (h : Hart) (k' : Kernel) (h' : Hart) : Type 0 where
  pub whole : IsWhole k' h'
  pub kernel : k' ≡ record k { memories = k'.memories }
  pub memories : OnlyKnown k.memories k'.memories
  pub regs : h'.regs ≡ h.regs

-- the process that runs has made so many such instructions, one after another; if there are none, nothing is another but what is kept
abbrev pub MakesDoneUnwatched : (addresses bytes : List ℕ) → (count : ℕ) → Kernel → Hart → Kernel → Hart → Type 0
MakesDoneUnwatched addresses bytes zero k h k' h' = OnlyKept k h k' h'
MakesDoneUnwatched addresses bytes (suc count) k h k' h' =
    (mid : Kernel) × (between : Hart) × MakesDoneUnwatched addresses bytes count k h mid between × IsBetweenCalls (live_now mid between)
    × GoesUnwatched addresses bytes (live_now mid between).regs (live_now mid between).image × Makes mid between (own (view_now mid between)) k' h'

-- as many as there are, so many at most: if fewer are made, the next step is no such instruction
pub record MakesAllUnwatched (addresses bytes : List ℕ) (most made : ℕ) (k : Kernel) (h : Hart) (k' : Kernel) (h' : Hart) : Type 0 where
  pub done : MakesDoneUnwatched addresses bytes made k h k' h'
  pub within : made ≤ most
  pub stops : made < most → IsBetweenCalls (live_now k' h') → ¬ GoesUnwatched addresses bytes (live_now k' h').regs (live_now k' h').image
