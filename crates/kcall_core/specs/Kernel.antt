-- The state that the kernel and its hart stand for, and when the two are sound.
use Rattle.std.specs.Prelude.{◌≡◌, ◌⊎◌, ℕ, ◌+◌, ◌<◌, ℤ, if◌then◌else◌, List, map, length, Option, Some, None, IsSome, get_or}
use Rattle.std.specs.Ordering.{nat_cmp}
use Rattle.std.specs.FinMap.{FinMap}
use Rattle.xk_base.specs.Gathered.{gathered}
use Rattle.xk_base.specs.declared.limits.TheConstants.{NPROC, NOFILE, OPEN_FILES}
use Rattle.xk_base.specs.Image.{Image, price}
use Rattle.rv64i_core.specs.Registers.{Registers}
use Rattle.hart_core.specs.Translations.{nothing_kept}
use Rattle.hart_core.specs.declared.hart.Hart.{Hart}
use Rattle.file_table.specs.OpenFiles.{open_file_at}
use Rattle.proc_table.specs.Processes.{status_of, is_marked, call_of, newborn}
use Rattle.proc_table.specs.Slots.{place_at, descriptors_at, IsTable}
use Rattle.proc_table.specs.declared.process.Process.{Process}
use Rattle.kernel_spec.specs.views.Words.{is_this, or_zero}
use Rattle.kernel_spec.specs.views.Processes as meaning
use Rattle.kernel_spec.specs.views.Processes.{Live, Alive, Zombie}
use Rattle.kernel_spec.specs.views.State.{State, named_file}
use Rattle.kernel_spec.specs.steps.Updates.{set_live}
use Rattle.kernel_spec.specs.views.ByPid.{by_pid}
use Rattle.kcall_core.specs.Holdings.{Held, held_at, HasMemory}
use Rattle.kcall_core.specs.Memories as memories
use Rattle.kcall_core.specs.Memories.{each_of, pipes_of, free_of, RunsIn}
use Rattle.kcall_core.specs.declared.kernel.Kernel.{Kernel}
use Rattle.kcall_core.specs.declared.memories.Memories.{Memories}

-- ---- a process

-- the open files that descriptors name, by the descriptors' numbers
abbrev pub descriptor_map : List (Option ℕ) → FinMap nat_cmp ℕ
descriptor_map descriptors = gathered (λ d. get_or descriptors d None) NOFILE

-- a live process: what the table keeps of it, with its descriptors, its memory and its registers
abbrev pub live_of : Process → List (Option ℕ) → Held → Registers → Live
live_of p descriptors held regs = record {
  regs = regs;
  image = held.image;
  descriptors = descriptor_map descriptors;
  parent = p.parent;
  killed = is_marked p;
  call = call_of p;
}

abbrev pub by_status : Option ℕ → Live → Option ℤ → meaning.Process
by_status parent live None = Alive live
by_status parent live (Some status) = Zombie parent status

-- what a process of the table means: a live one with its memory and its registers, or a zombie
abbrev pub process_of : Process → List (Option ℕ) → Held → Registers → meaning.Process
process_of p descriptors held regs = by_status p.parent (live_of p descriptors held regs) (status_of p)

-- ---- the state

-- the registers of the process in a slot: the hart's while it runs, else those in its trapframe
abbrev pub regs_at : Kernel → Hart → ℕ → Registers
regs_at k h slot = if is_this slot k.current then h.regs else (held_at (each_of k.memories) slot).saved

abbrev pub entry_of : Kernel → Hart → ℕ → Option Process → Option (ℕ × meaning.Process)
entry_of k h slot None = None
entry_of k h slot (Some p) = Some (p.pid, process_of p (descriptors_at k.table slot) (held_at (each_of k.memories) slot) (regs_at k h slot))

-- the process in a slot, with its pid
abbrev pub entry_at : Kernel → Hart → ℕ → Option (ℕ × meaning.Process)
entry_at k h slot = entry_of k h slot (place_at k.table slot)

-- the state that the kernel's fields stand for, with the hart's registers as those of the process that runs
unfoldable pub state_of : Kernel → Hart → State
state_of k h = record {
  processes = by_pid (entry_at k h) NPROC;
  files = gathered (open_file_at k.files) OPEN_FILES;
  pipes = pipes_of k.memories;
  console = k.console;
  clock = k.clock;
  next_pid = k.table.next;
  free = free_of k.memories;
  programs = map named_file k.programs.items;
}

-- how many frames RAM has
abbrev pub frame_count : Kernel → ℕ
frame_count k = length k.memories.ram

-- ---- the process that runs

-- a process runs
abbrev pub IsRunning : Kernel → Type 0
IsRunning k = IsSome k.current

-- none does
abbrev pub IsStopped : Kernel → Type 0
IsStopped k = k.current ≡ None

-- the process in a place that has one
abbrev pub or_nobody : Option Process → Process
or_nobody None = newborn 0 None
or_nobody (Some p) = p

-- its slot
abbrev pub slot_now : Kernel → ℕ
slot_now k = or_zero k.current

-- its place in the table
abbrev pub place_now : Kernel → Process
place_now k = or_nobody (place_at k.table (slot_now k))

-- its pid
abbrev pub pid_now : Kernel → ℕ
pid_now k = (place_now k).pid

-- and what it is
abbrev pub live_now : Kernel → Hart → Live
live_now k h = live_of (place_now k) (descriptors_at k.table (slot_now k)) (held_at (each_of k.memories) (slot_now k)) h.regs

-- ---- soundness

-- the hart uses no tables, and keeps nothing of any
abbrev pub IsIdle : Hart → Type 0
IsIdle h = (h.root ≡ None) × (h.cache ≡ nothing_kept)

-- the hart is parked: it uses the tables of the process in some slot, and what it keeps of them is true
abbrev pub IsParked : Memories → Hart → Type 0
IsParked m h = (slot : ℕ) × RunsIn m slot h

-- the process in a slot is live, and the hart runs it
pub record IsCurrent (k : Kernel) (h : Hart) (slot : ℕ) : Type 0 where
  pub process : Process
  pub is : place_at k.table slot ≡ Some process
  pub live : status_of process ≡ None
  pub runs : RunsIn k.memories slot h

-- each frame has one owner; the table is whole; a live process has a memory, and nothing else has; the hart runs the current process; if there is none, it is idle or parked
pub record IsSound (k : Kernel) (h : Hart) : Type 0 where
  pub memories : memories.AreSound k.memories
  pub table : IsTable k.table
  pub lives : (slot : ℕ) (p : Process) → place_at k.table slot ≡ Some p → status_of p ≡ None → HasMemory (each_of k.memories) slot
  pub ended : (slot : ℕ) (p : Process) (status : ℤ) → place_at k.table slot ≡ Some p → status_of p ≡ Some status → get_or (each_of k.memories) slot None ≡ None
  pub vacant : (slot : ℕ) → place_at k.table slot ≡ None → get_or (each_of k.memories) slot None ≡ None
  pub current : (slot : ℕ) → k.current ≡ Some slot → IsCurrent k h slot
  pub idle : IsStopped k → IsIdle h ⊎ IsParked k.memories h

-- ---- growth

-- t is u but for the free frames: of those that s had, the image that came after took what it costs more than the one before
pub record IsRepriced (s : State) (before after : Image) (u t : State) : Type 0 where
  pub state : t ≡ record u { free = t.free }
  pub free : t.free + price after ≡ s.free + price before

-- ---- sbrk and sbrklazy

-- the image that comes after costs more than the one before and the free frames
abbrev pub IsTooDear : Kernel → Image → Image → Type 0
IsTooDear k before after = price before + free_of k.memories < price after

-- The process that runs has this image now: of the free frames it took what the image costs more, and nothing else is another
pub record HasImage (k : Kernel) (h : Hart) (image : Image) (k' : Kernel) (h' : Hart) : Type 0 where
  pub sound : IsSound k' h'
  pub kernel : k' ≡ record k { memories = k'.memories }
  pub live : live_now k' h' ≡ record (live_now k h) { image = image }
  pub state : IsRepriced (state_of k h) (live_now k h).image image (set_live (pid_now k) (record (live_now k h) { image = image }) (state_of k h)) (state_of k' h')
  pub frames : frame_count k' ≡ frame_count k
