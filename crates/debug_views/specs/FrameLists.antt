-- What the frames of RAM are used for, as a list.
use Rattle.std.specs.Prelude.{◌≡◌, ℕ, ◌≤◌, ◌&&◌, ◌||◌, Bool, true, false, nat_eq, nat_le, min, if◌then◌else◌, List, length, slice_get, Option, None, Some}
use Rattle.xk_base.specs.declared.limits.TheConstants.{FRAMES_MAX}
use Rattle.kcall_core.specs.declared.kernel.observers.frame_uses.FrameUse.{FrameUse}
use Rattle.kcall_core.specs.declared.kernel.observers.frame_uses.FrameUse.TheVariants.{Trapframe, Root, Upper, Lower, Page, Pipe}
use Rattle.xv_machine.specs.Meaning.{Meaning}
use Rattle.xv_machine.specs.FrameUses.{IsUsed}
use Rattle.debug_views.specs.declared.frame_uses.Counted.{Counted}
use Rattle.debug_views.specs.declared.frame_uses.Counted.TheVariants.{Pages, Tables, Trapframes, Frames, Pipes}
use Rattle.debug_views.specs.declared.frame_uses.Table.{Table}
use Rattle.debug_views.specs.declared.frame_uses.Table.TheVariants.{TheRoot, UpperAt, LowerAt}

-- Each frame of the machine's RAM, with its use, from frame 0 on
pub record AreUses (m : Meaning) (uses : List FrameUse) : Type 0 where
  pub each : (f : ℕ) (used : FrameUse) → slice_get uses f ≡ Some used → IsUsed m f used
  pub all : length uses ≡ min FRAMES_MAX m.frames.count

abbrev pub is_page_of : ℕ → FrameUse → Bool
is_page_of p (Page pid vpn) = nat_eq pid p
is_page_of p _ = false

abbrev pub is_table_of : ℕ → FrameUse → Bool
is_table_of p (Root pid) = nat_eq pid p
is_table_of p (Upper pid place) = nat_eq pid p
is_table_of p (Lower pid place) = nat_eq pid p
is_table_of p _ = false

abbrev pub is_trapframe_of : ℕ → FrameUse → Bool
is_trapframe_of p (Trapframe pid) = nat_eq pid p
is_trapframe_of p _ = false

-- it is any of these
abbrev pub is_frame_of : ℕ → FrameUse → Bool
is_frame_of p used = is_page_of p used || is_table_of p used || is_trapframe_of p used

-- one table of a process: the root, and the upper or lower one at a place
abbrev pub is_root_of : ℕ → FrameUse → Bool
is_root_of p (Root pid) = nat_eq pid p
is_root_of p _ = false

abbrev pub is_upper_of : (p place : ℕ) → FrameUse → Bool
is_upper_of p place (Upper pid at) = nat_eq pid p && nat_eq at place
is_upper_of p place _ = false

abbrev pub is_lower_of : (p place : ℕ) → FrameUse → Bool
is_lower_of p place (Lower pid at) = nat_eq pid p && nat_eq at place
is_lower_of p place _ = false

abbrev pub is_pipe : FrameUse → Bool
is_pipe Pipe = true
is_pipe _ = false

-- those that are counted
abbrev pub is_counted : Counted → FrameUse → Bool
is_counted (Pages p) = is_page_of p
is_counted (Tables p) = is_table_of p
is_counted (Trapframes p) = is_trapframe_of p
is_counted (Frames p) = is_frame_of p
is_counted Pipes = is_pipe

-- this table of process p
abbrev pub is_this_table : (p : ℕ) → Table → FrameUse → Bool
is_this_table p TheRoot = is_root_of p
is_this_table p (UpperAt place) = is_upper_of p place
is_this_table p (LowerAt place) = is_lower_of p place

-- ---- lower tables

-- the place of process p's lower table that a frame has, if it is one from this place on
abbrev pub lower_in : (p from : ℕ) → FrameUse → Option ℕ
lower_in p from (Lower pid place) = if nat_eq pid p && nat_le from place then Some place else None
lower_in p from _ = None

-- a frame is used so
pub record IsAmong (uses : List FrameUse) (used : FrameUse) : Type 0 where
  pub frame : ℕ
  pub is : slice_get uses frame ≡ Some used

-- the place of the first lower table of process p among frames, from this place on; none where there is none
abbrev pub IsLeastLower : List FrameUse → (p from : ℕ) → Option ℕ → Type 0
IsLeastLower uses p from None = (q : ℕ) → from ≤ q → ¬ IsAmong uses (Lower p q)
IsLeastLower uses p from (Some place) = (from ≤ place) × IsAmong uses (Lower p place) × ((q : ℕ) → from ≤ q → IsAmong uses (Lower p q) → place ≤ q)
