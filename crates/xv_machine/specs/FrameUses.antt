-- What observers are told of the frames of RAM: which frame a page has, and what a frame is used for.
use Rattle.std.specs.Prelude.{◌≡◌, ℕ, Option, None, Some, IsSome, Contains}
use Rattle.std.specs.FinMap.{get}
use Rattle.kcall_core.specs.declared.kernel.observers.frame_uses.FrameUse.{FrameUse}
use Rattle.kcall_core.specs.declared.kernel.observers.frame_uses.FrameUse.TheVariants.{Free, Trapframe, Root, Upper, Lower, Page, Pipe}
use Rattle.xv_machine.specs.Meaning.{Owned, Frames, Meaning}

-- ---- a page

abbrev pub page_frame_in : (vpn : ℕ) → Option Owned → Option ℕ
page_frame_in vpn None = None
page_frame_in vpn (Some o) = get o.pages vpn

-- the frame that the process of this pid has for a page; none where it has no such page
abbrev pub page_frame_at : Frames → (pid vpn : ℕ) → Option ℕ
page_frame_at frames pid vpn = page_frame_in vpn (get frames.owned pid)

-- ---- a frame

-- the process of this pid has frames, and of them this is so
abbrev pub IsOwned : Frames → (pid : ℕ) → (Owned → Type 0) → Type 0
IsOwned frames pid claim = (o : Owned) × (get frames.owned pid ≡ Some o) × claim o

-- Frame f has this use: it is one of the free ones; or a process has it, as its trapframe, as its root, as the table at this place of a level, as the page of this number; or a pipe lies in it
abbrev pub IsUsed : Meaning → (f : ℕ) → FrameUse → Type 0
IsUsed m f Free = Contains m.frames.free f
IsUsed m f (Trapframe pid) = IsOwned m.frames pid (λ o. o.trapframe ≡ f)
IsUsed m f (Root pid) = IsOwned m.frames pid (λ o. o.root ≡ f)
IsUsed m f (Upper pid place) = IsOwned m.frames pid (λ o. get o.uppers place ≡ Some f)
IsUsed m f (Lower pid place) = IsOwned m.frames pid (λ o. get o.lowers place ≡ Some f)
IsUsed m f (Page pid vpn) = page_frame_at m.frames pid vpn ≡ Some f
IsUsed m f Pipe = IsSome (get m.world.state.pipes f)
