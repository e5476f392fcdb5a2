-- What observers of a kernel are told of the frames of RAM: whose each is, and what for.
use Rattle.std.specs.Prelude.{◌≡◌, ◌≢◌, ℕ, ◌/◌, ◌≤◌, List, get_or, Option, None, Some, IsSome}
use Rattle.std.specs.FinMap.{get}
use Rattle.xk_base.specs.Frames.{copies}
use Rattle.sv39_core.specs.Sv39.{table_at, page_entry}
use Rattle.sv39_core.specs.Tree.{frame_of}
use Rattle.frame_list.specs.Pool.{free_in}
use Rattle.proc_table.specs.Slots.{place_at}
use Rattle.proc_table.specs.declared.process.Process.{Process}
use Rattle.kcall_core.specs.Memories.{pipes_of}
use Rattle.kcall_core.specs.declared.memories.Memory.{Memory}
use Rattle.kcall_core.specs.declared.memories.Memories.{Memories}
use Rattle.kcall_core.specs.declared.memories.frame_roles.FrameRole.{FrameRole}
use Rattle.kcall_core.specs.declared.memories.frame_roles.FrameRole.TheVariants as role
use Rattle.kcall_core.specs.declared.kernel.Kernel.{Kernel}
use Rattle.kcall_core.specs.declared.kernel.observers.frame_uses.FrameUse.{FrameUse}
use Rattle.kcall_core.specs.declared.kernel.observers.frame_uses.FrameUse.TheVariants.{Free, Trapframe, Root, Upper, Lower, Page, Pipe}

-- ---- one memory

-- frame f has this role in the tree of tables below a root
abbrev pub IsInTree : List (List ℕ) → (root f : ℕ) → FrameRole → Type 0
IsInTree ram root f role.Trapframe = ⊥
IsInTree ram root f role.Root = root ≡ f
IsInTree ram root f (role.Upper place) = table_at ram root 1 place ≡ Some f
IsInTree ram root f (role.Lower place) = table_at ram root 2 place ≡ Some f
IsInTree ram root f (role.Page vpn) = frame_of (page_entry ram root vpn) ≡ Some f

-- no table below the root on the way to page v, and not the page itself, is frame f
abbrev pub IsOffTheWay : List (List ℕ) → (root f v : ℕ) → Type 0
IsOffTheWay ram root f v = (table_at ram root 1 (v / 262144) ≢ Some f) × (table_at ram root 2 (v / 512) ≢ Some f) × (frame_of (page_entry ram root v) ≢ Some f)

-- a memory has frame f for this
abbrev pub IsUsedBy : List (List ℕ) → Memory → (f : ℕ) → FrameRole → Type 0
IsUsedBy ram m f role.Trapframe = m.trapframe ≡ f
IsUsedBy ram m f role.Root = IsInTree ram m.space.root f role.Root
IsUsedBy ram m f (role.Upper place) = IsInTree ram m.space.root f (role.Upper place)
IsUsedBy ram m f (role.Lower place) = IsInTree ram m.space.root f (role.Lower place)
IsUsedBy ram m f (role.Page vpn) = IsInTree ram m.space.root f (role.Page vpn)

-- the memory in a slot has it for this
abbrev pub IsUsedIn : Memories → (slot f : ℕ) → FrameRole → Type 0
IsUsedIn m slot f r = (memory : Memory) × (get_or m.each.items slot None ≡ Some memory) × IsUsedBy m.ram memory f r

abbrev pub page_frame_of : List (List ℕ) → (vpn : ℕ) → Option Memory → Option ℕ
page_frame_of ram vpn None = None
page_frame_of ram vpn (Some m) = frame_of (page_entry ram m.space.root vpn)

-- the frame of a page of the memory in a slot
abbrev pub page_frame_in : Memories → (slot vpn : ℕ) → Option ℕ
page_frame_in m slot vpn = page_frame_of m.ram vpn (get_or m.each.items slot None)

-- ---- the machine's RAM

-- the process of this pid has frame f for this
abbrev pub IsOwned : Kernel → (pid f : ℕ) → FrameRole → Type 0
IsOwned k pid f r = (slot : ℕ) × (p : Process) × (place_at k.table slot ≡ Some p) × (p.pid ≡ pid) × IsUsedIn k.memories slot f r

-- a role of a process's frame, as a use of RAM
abbrev pub use_of : (pid : ℕ) → FrameRole → FrameUse
use_of pid role.Trapframe = Trapframe pid
use_of pid role.Root = Root pid
use_of pid (role.Upper place) = Upper pid place
use_of pid (role.Lower place) = Lower pid place
use_of pid (role.Page vpn) = Page pid vpn

-- frame f has this use: it is free, a process has it for something, a pipe lies in it
abbrev pub IsUsed : Kernel → (f : ℕ) → FrameUse → Type 0
IsUsed k f Free = 1 ≤ copies f (free_in k.memories.pool k.memories.ram)
IsUsed k f (Trapframe pid) = IsOwned k pid f role.Trapframe
IsUsed k f (Root pid) = IsOwned k pid f role.Root
IsUsed k f (Upper pid place) = IsOwned k pid f (role.Upper place)
IsUsed k f (Lower pid place) = IsOwned k pid f (role.Lower place)
IsUsed k f (Page pid vpn) = IsOwned k pid f (role.Page vpn)
IsUsed k f Pipe = IsSome (get (pipes_of k.memories) f)
