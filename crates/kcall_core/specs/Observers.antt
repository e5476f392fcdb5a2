-- What observers of a kernel are told of its processes.
use Rattle.std.specs.Prelude.{◌≡◌, ℕ, ℤ, Bool, Option, None, Some, option_map}
use Rattle.std.specs.FinMap.{get}
use Rattle.std.specs.FinSet.{contains}
use Rattle.xk_base.specs.declared.access.Rights.{Rights}
use Rattle.rv64i_core.specs.Registers.{Registers}
use Rattle.file_table.specs.declared.open_file.OpenFile.{OpenFile}
use Rattle.proc_table.specs.Processes.{status_of}
use Rattle.proc_table.specs.Slots.{place_at}
use Rattle.proc_table.specs.declared.process.Process.{Process}
use Rattle.kernel_spec.specs.views.Processes as meaning
use Rattle.kernel_spec.specs.views.Processes.{Live, Child}
use Rattle.kernel_spec.specs.views.State.{State, live}
use Rattle.kernel_spec.specs.views.View.{child_of}
use Rattle.kernel_spec.specs.others.Quiet.{file_at}
use Rattle.kernel_spec.specs.runs.Run.{World}
use Rattle.kcall_core.specs.Holdings.{byte_of, rights_of}
use Rattle.kcall_core.specs.declared.kernel.Kernel.{Kernel}
use Rattle.kcall_core.specs.declared.kernel.observers.ChildState.{ChildState}
use Rattle.kcall_core.specs.declared.kernel.observers.ChildState.TheVariants.{Running, Status}
use Rattle.kcall_core.specs.declared.kernel.observers.Descriptor.{Descriptor}
use Rattle.kcall_core.specs.declared.kernel.observers.ProcessState.{ProcessState}
use Rattle.kcall_core.specs.declared.kernel.observers.ProcessState.TheVariants as state

-- the live process of this pid is in the slot
abbrev pub IsLiveIn : Kernel → ℕ → ℕ → Type 0
IsLiveIn k pid slot = (p : Process) × (place_at k.table slot ≡ Some p) × (status_of p ≡ None) × (p.pid ≡ pid)

-- ---- what a process is

-- what is told of a process: of a live one its parent, its kill mark, the kernel call that it is in, and whether it sleeps; of a zombie its parent and its status
abbrev pub told : (asleep : Bool) → meaning.Process → ProcessState
told asleep (meaning.Alive l) = state.Live l.parent l.killed l.call asleep
told asleep (meaning.Zombie parent status) = state.Zombie parent status

-- what is told of the process of this pid; none where no process has it
abbrev pub process_at : World → ℕ → Option ProcessState
process_at w p = option_map (told (contains w.turns.sleepers p)) (get w.state.processes p)

-- ---- registers and memory

-- the registers of a live process
abbrev pub registers_of : State → ℕ → Option Registers
registers_of s p = option_map (λ (l : Live). l.regs) (live s p)

-- how many bytes the memory of a live process has
abbrev pub size_of : State → ℕ → Option ℕ
size_of s p = option_map (λ (l : Live). l.image.size) (live s p)

abbrev pub byte_in : ℕ → Option Live → Option ℕ
byte_in va None = None
byte_in va (Some l) = byte_of l.image va

-- the byte at an address of a live process, whatever its page allows; none where there is no page
abbrev pub byte_at : State → ℕ → ℕ → Option ℕ
byte_at s p va = byte_in va (live s p)

abbrev pub rights_in : ℕ → Option Live → Option Rights
rights_in vpn None = None
rights_in vpn (Some l) = rights_of l.image vpn

-- what a page of a live process allows; none where it isn't there
abbrev pub rights_at : State → ℕ → ℕ → Option Rights
rights_at s p vpn = rights_in vpn (live s p)

-- ---- descriptors

-- a descriptor on the open file of this name, if it names one
abbrev pub opened : State → Option ℕ → Option Descriptor
opened s None = None
opened s (Some file) = option_map (λ (open_file : OpenFile). record { file = file; open_file = open_file }) (get s.files file)

-- what a descriptor of a live process names; none where it isn't in use
abbrev pub descriptor_of : State → ℕ → ℕ → Option Descriptor
descriptor_of s p d = opened s (file_at s p d)

-- ---- children

abbrev pub if_live : Option Live → Option Child → Option Child
if_live None c = None
if_live (Some l) c = c

-- what a live process can know of a child of its
abbrev pub child_at : State → ℕ → ℕ → Option Child
child_at s p q = if_live (live s p) (child_of p (get s.processes q))

-- a child, by the status with which it ended
abbrev pub child_seen : Option ℤ → Child
child_seen None = meaning.Running
child_seen (Some status) = meaning.Status status

abbrev pub shown : ChildState → Child
shown Running = meaning.Running
shown (Status status) = meaning.Status status
