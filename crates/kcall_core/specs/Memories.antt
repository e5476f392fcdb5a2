-- The memories of the processes and the pipes in RAM: what they stand for, and whose each frame is.
use Rattle.std.specs.Prelude.{◌≡◌, ◌≢◌, ℕ, zero, suc, ◌+◌, ◌%◌, ◌≤◌, ◌<◌, Bool, true, false, if◌then◌else◌, List, [], ◌∷◌, ◌++◌, Option, Some, None, length, get_or, set, map, ◌&&◌, nat_le, nat_lt}
use Rattle.std.specs.Ordering.{nat_cmp}
use Rattle.std.specs.FinMap.{FinMap, get}
use Rattle.xk_base.specs.Frames.{copies}
use Rattle.xk_base.specs.Image.{Image}
use Rattle.xk_base.specs.Gathered.{gathered}
use Rattle.xk_base.specs.declared.limits.TheConstants.{NPROC, FRAMES_MAX}
use Rattle.frame_list.specs.declared.Pool.{Pool}
use Rattle.frame_list.specs.Pool.{free_in, Good}
use Rattle.addr_space.specs.Space as space
use Rattle.addr_space.specs.Space.{image_of, IsSpace}
use Rattle.rv64i_core.specs.Registers.{Registers}
use Rattle.rv64i_core.specs.Step.{Step, stop_of, regs_after, state_after, address_used}
use Rattle.rv64i_core.specs.declared.execution.Stop.{Stop}
use Rattle.rv64i_core.specs.declared.execution.Stop.TheVariants.{Next, Ecall, Fault}
use Rattle.hart_core.specs.Trapframe.{saved}
use Rattle.hart_core.specs.Translations.{Fits}
use Rattle.rv64i_core.specs.UserImage.{user, with_store}
use Rattle.hart_core.specs.Steps.{last_fault}
use Rattle.hart_core.specs.declared.hart.Hart.{Hart}
use Rattle.pipe_core.specs.Pipe.{Pipe, IsPipe, pipe_in}
use Rattle.kernel_spec.specs.steps.Instruction.{next_instruction}
use Rattle.kernel_spec.specs.views.Words.{count_if}
use Rattle.kcall_core.specs.Holdings.{Held, held_at, with_image, held_cost, pipe_cost, with_pipe}
use Rattle.kcall_core.specs.declared.memories.Memory.{Memory}
use Rattle.kcall_core.specs.declared.memories.Memories.{Memories}

-- ---- what stands in RAM

-- the memory in a slot: the image of its space, and the registers in its trapframe
abbrev pub held_in : List (List ℕ) → Option Memory → Option Held
held_in ram None = None
held_in ram (Some m) = Some (record { image = image_of ram m.space; saved = saved ram m.trapframe })

-- the memory of each slot
unfoldable pub each_of : Memories → List (Option Held)
each_of m = map (held_in m.ram) m.each.items

-- this frame keeps a pipe
abbrev pub keeps_pipe : List Bool → ℕ → Bool
keeps_pipe pipes f = get_or pipes f false

-- the pipe that a frame keeps, if it does
abbrev pub kept_pipe : List (List ℕ) → List Bool → ℕ → Option Pipe
kept_pipe ram pipes f = if keeps_pipe pipes f then Some (pipe_in ram f) else None

-- the pipes, by the frames that keep them
unfoldable pub pipes_of : Memories → FinMap nat_cmp Pipe
pipes_of m = gathered (kept_pipe m.ram m.pipes.items) FRAMES_MAX

-- how many frames are free
unfoldable pub free_of : Memories → ℕ
free_of m = length (free_in m.pool m.ram)

-- ---- whose each frame is

-- the frames of a memory: its trapframe, and the root, the tables and the pages of its space
abbrev pub slot_frames : List (List ℕ) → Option Memory → List ℕ
slot_frames ram None = []
slot_frames ram (Some m) = m.trapframe ∷ space.frames_of ram m.space

-- lists, one after another
unfoldable pub all_joined : List (List ℕ) → List ℕ
all_joined [] = []
all_joined (xs ∷ rest) = xs ++ all_joined rest

-- the frames of all processes
abbrev pub process_frames : List (List ℕ) → List (Option Memory) → List ℕ
process_frames ram each = all_joined (map (slot_frames ram) each)

-- how many owners and roles frame f has: free, a place in the memory of a process, a pipe
abbrev pub owners : Pool → List (List ℕ) → List (Option Memory) → List Bool → ℕ → ℕ
owners pool ram each pipes f = copies f (free_in pool ram) + copies f (process_frames ram each) + count_if (keeps_pipe pipes f)

-- a memory is whole: its space is, and its trapframe has a pc that is a multiple of 4
pub record IsMemory (ram : List (List ℕ)) (m : Memory) : Type 0 where
  pub space : IsSpace ram m.space
  pub aligned : (saved ram m.trapframe).pc % 4 ≡ 0

-- each frame of RAM is free, or has exactly one owner and there exactly one role
pub record IsAccounted (pool : Pool) (ram : List (List ℕ)) (each : List (Option Memory)) (pipes : List Bool) : Type 0 where
  pub good : Good pool ram
  pub slots : length each ≡ NPROC
  pub places : length pipes ≡ length ram
  pub memories : (i : ℕ) (m : Memory) → get_or each i None ≡ Some m → IsMemory ram m
  pub keeps : (f : ℕ) → keeps_pipe pipes f ≡ true → IsPipe ram f
  pub once : (f : ℕ) → f < length ram → owners pool ram each pipes f ≡ 1
  pub inside : (f : ℕ) → length ram ≤ f → owners pool ram each pipes f ≡ 0

abbrev pub AreSound : Memories → Type 0
AreSound m = IsAccounted m.pool m.ram m.each.items m.pipes.items

-- the memory m stands in slot i
pub record Stands (old : Memories) (i : ℕ) (m : Memory) : Type 0 where
  pub sound : AreSound old
  pub inside : i < length old.each.items
  pub is : get_or old.each.items i None ≡ Some m

-- ---- a hart that runs the process in a slot

-- the hart uses the tables of the memory in this slot, and what it keeps of them is true
pub record RunsIn (m : Memories) (slot : ℕ) (hart : Hart) : Type 0 where
  pub memory : Memory
  pub is : get_or m.each.items slot None ≡ Some memory
  pub root : hart.root ≡ Some memory.space.root
  pub fits : Fits m.ram memory.space.root hart.cache

-- a page has one of the numbers from first to below end
abbrev pub is_between : ℕ → ℕ → ℕ → Bool
is_between first end page = nat_le first page && nat_lt page end

-- ---- a change of one slot

-- the memory in a slot is another, or there is none: all other memories, all pipes and each other hart stay, no frame is lost
pub record SlotChanges (old new : Memories) (slot : ℕ) (after : Option Held) : Type 0 where
  pub sound : AreSound new
  pub each : each_of new ≡ set (each_of old) slot after
  pub pipes : pipes_of new ≡ pipes_of old
  pub free : free_of new + held_cost after ≡ free_of old + held_cost (get_or (each_of old) slot None)
  pub frames : length new.ram ≡ length old.ram
  pub runs : (other : ℕ) (hart : Hart) → other ≢ slot → RunsIn old other hart → RunsIn new other hart

-- the image of the process in a slot
abbrev pub image_at : Memories → (slot : ℕ) → Image
image_at m slot = (held_at (each_of m) slot).image

-- the image in a slot is another, and the registers in its trapframe stay
abbrev pub ImageChanges : (old new : Memories) → (slot : ℕ) → Image → Type 0
ImageChanges old new slot image = SlotChanges old new slot (Some (with_image image (held_at (each_of old) slot)))

-- the pipe that a frame keeps is another, or it keeps none: all memories, all other pipes and each hart stay, no frame is lost
pub record PipeChanges (old new : Memories) (f : ℕ) (after : Option Pipe) : Type 0 where
  pub sound : AreSound new
  pub each : each_of new ≡ each_of old
  pub pipes : pipes_of new ≡ with_pipe f after (pipes_of old)
  pub free : free_of new + pipe_cost after ≡ free_of old + pipe_cost (get (pipes_of old) f)
  pub frames : length new.ram ≡ length old.ram
  pub runs : (slot : ℕ) (hart : Hart) → RunsIn old slot hart → RunsIn new slot hart

-- nothing that can be seen is another
pub record Same (old new : Memories) : Type 0 where
  pub sound : AreSound new
  pub each : each_of new ≡ each_of old
  pub pipes : pipes_of new ≡ pipes_of old
  pub free : free_of new ≡ free_of old
  pub frames : length new.ram ≡ length old.ram
  pub runs : (slot : ℕ) (hart : Hart) → RunsIn old slot hart → RunsIn new slot hart

-- ---- one instruction

-- what the instruction at the pc is, for the process in a slot
abbrev pub step_in : Memories → ℕ → Registers → Step
step_in m slot regs = next_instruction regs (held_at (each_of m) slot).image

-- a hart has made one instruction for the process in a slot, on the memory that user code sees of its image
pub record Steps (old new : Memories) (slot : ℕ) (hart hart' : Hart) (stop : Stop) : Type 0 where
  pub ends : stop ≡ stop_of (step_in old slot hart.regs)
  pub regs : hart'.regs ≡ regs_after hart.regs (step_in old slot hart.regs)
  pub changes : let held = held_at (each_of old) slot in SlotChanges old new slot (Some (with_image (state_after with_store held.image (step_in old slot hart.regs)) held))
  pub free : free_of new ≡ free_of old
  pub runs : RunsIn new slot hart'
  -- the address of the last page fault of a load or a store
  pub fault : hart'.fault_address ≡ last_fault hart.fault_address (address_used hart.regs (user (held_at (each_of old) slot).image)) (step_in old slot hart.regs)

-- so many instructions of the process in a slot, one after another, each of which is done
abbrev pub StepsDone : (count slot : ℕ) → Memories → Hart → Memories → Hart → Type 0
StepsDone zero slot old hart new hart' = (new ≡ old) × (hart' ≡ hart)
StepsDone (suc count) slot old hart new hart' = (mid : Memories) × (between : Hart) × StepsDone count slot old hart mid between × Steps mid new slot between hart' Next

-- behind them all that were asked for are done; or one more was tried, which isn't done
abbrev pub IsLastStep : (slot most made : ℕ) → Stop → Memories → Hart → Memories → Hart → Type 0
IsLastStep slot most made Next old hart new hart' = (made ≡ most) × (new ≡ old) × (hart' ≡ hart)
IsLastStep slot most made Ecall old hart new hart' = (made < most) × Steps old new slot hart hart' Ecall
IsLastStep slot most made (Fault cause) old hart new hart' = (made < most) × Steps old new slot hart hart' (Fault cause)

-- instructions of the process in a slot, one after another, up to the first that isn't done, so many at most
pub record StepsInARow (slot most made : ℕ) (stop : Stop) (old : Memories) (hart : Hart) (new : Memories) (hart' : Hart) : Type 0 where
  pub mid : Memories
  pub between : Hart
  pub done : StepsDone made slot old hart mid between
  pub last : IsLastStep slot most made stop mid between new hart'
