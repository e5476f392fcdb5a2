-- The frames of RAM and who owns them, as they are shown.
use Rattle.std.specs.Prelude.{◌≡◌, ◌⊎◌, ℕ, zero, suc, ◌+◌, ◌*◌, ◌≤◌, if◌then◌else◌, Bool, List, [], ◌∷◌, ◌++◌, length, count_by, codes, decimal, Option, None, Some}
use Rattle.std.specs.List.{concat}
use Rattle.xk_base.specs.declared.access.Rights.{Rights}
use Rattle.kcall_core.specs.Observers.{rights_at}
use Rattle.kcall_core.specs.declared.kernel.observers.frame_uses.FrameUse.{FrameUse}
use Rattle.kcall_core.specs.declared.kernel.observers.frame_uses.FrameUse.TheVariants.{Free, Trapframe, Root, Upper, Lower, Page, Pipe}
use Rattle.xv_machine.specs.FrameUses.{IsUsed}
use Rattle.xv_session.specs.Recorded.{Recorded}
use Rattle.debug_words.specs.Texts.{at_left, at_right, grouped, hexadecimal, many, name_shown, named, number_at_right}
use Rattle.debug_views.specs.Focus.{IsLeastFrom, name_in}
use Rattle.debug_views.specs.FrameLists.{AreUses, is_frame_of, is_page_of, is_pipe, is_table_of, is_trapframe_of}

-- ---- a frame

-- what a page allows, in four letters
abbrev pub letter : Bool → List ℕ → List ℕ
letter allowed name = if allowed then name else codes "-"

abbrev pub rights_shown : Option Rights → List ℕ
rights_shown None = codes "----"
rights_shown (Some r) = letter r.read (codes "r") ++ letter r.write (codes "w") ++ letter r.execute (codes "x") ++ letter r.user (codes "u")

-- a process and its program
unfoldable pub owner_text : Recorded → ℕ → List ℕ
owner_text s p = concat (codes "process " ∷ decimal p ∷ named (name_in s p) ∷ codes "\n" ∷ [])

-- what a table is, and at which place
abbrev pub table_head : (level : List ℕ) → (place : ℕ) → List ℕ
table_head level place = concat (level ∷ codes " table " ∷ decimal place ∷ codes " of " ∷ [])

-- where a page is, and what it allows
abbrev pub page_head : Recorded → (p vpn : ℕ) → List ℕ
page_head s p vpn = concat (codes "the page at " ∷ hexadecimal (vpn * 4096) ∷ codes ", " ∷ rights_shown (rights_at s.machine.world.state p vpn) ∷ codes ", of " ∷ [])

-- what a frame is used for
abbrev pub use_text : Recorded → FrameUse → List ℕ
use_text s Free = codes "free\n"
use_text s Pipe = codes "a pipe: pipe tells of it\n"
use_text s (Trapframe p) = codes "the trapframe of " ++ owner_text s p
use_text s (Root p) = codes "the root table of " ++ owner_text s p
use_text s (Upper p place) = table_head (codes "upper") place ++ owner_text s p
use_text s (Lower p place) = table_head (codes "lower") place ++ owner_text s p
use_text s (Page p vpn) = page_head s p vpn ++ owner_text s p

abbrev pub frame_head : ℕ → List ℕ
frame_head f = codes "frame " ++ decimal f ++ codes ": "

abbrev pub no_frame : ℕ → List ℕ
no_frame f = codes "RAM has no frame " ++ decimal f ++ codes ": frames tells how many there are\n"

-- This is what a frame is used for; or RAM has no such frame
abbrev pub IsFrameText : Recorded → (f : ℕ) → List ℕ → Type 0
IsFrameText s f text =
    ((used : FrameUse) × IsUsed s.machine f used × (text ≡ frame_head f ++ use_text s used))
    ⊎ ((s.machine.frames.count ≤ f) × (text ≡ no_frame f))

-- ---- who owns how many

abbrev pub or_stroke : Option (List ℕ) → List ℕ
or_stroke None = codes "-"
or_stroke (Some name) = name

-- how many frames a process has: for pages, for tables, for its trapframe, and in all
unfoldable pub share_text : Recorded → List FrameUse → ℕ → List ℕ
share_text s uses p = concat (
    number_at_right 5 p ∷ codes " " ∷ at_left 14 (name_shown (or_stroke (name_in s p)))
    ∷ codes " " ∷ at_right 7 (grouped (count_by (is_page_of p) uses)) ∷ codes " " ∷ at_right 7 (grouped (count_by (is_table_of p) uses))
    ∷ codes " " ∷ at_right 10 (grouped (count_by (is_trapframe_of p) uses)) ∷ codes " " ∷ at_right 7 (grouped (count_by (is_frame_of p) uses)) ∷ codes "\n" ∷ [])

-- which process is the next, if there are more than are shown
abbrev pub more_text : Option ℕ → List ℕ
more_text None = []
more_text (Some p) = codes "there are more, from process " ++ decimal p ++ codes " on: ps lists them\n"

-- The processes from a pid on, by rising pids, so many at most; and whether there are more
abbrev pub AreShares : Recorded → List FrameUse → (lines from : ℕ) → List ℕ → Type 0
AreShares s uses zero from text = (next : Option ℕ) × IsLeastFrom s.machine.world.state from next × (text ≡ more_text next)
AreShares s uses (suc lines) from text =
    (IsLeastFrom s.machine.world.state from None × (text ≡ []))
    ⊎ ((p : ℕ) × (rest : List ℕ) × IsLeastFrom s.machine.world.state from (Some p) × AreShares s uses lines (p + 1) rest × (text ≡ share_text s uses p ++ rest))

-- how many frames there are, how many are free, and how many pipes have
abbrev pub shares_head : Recorded → List FrameUse → List ℕ
shares_head s uses = concat (
    many (length uses) (codes "frame") ∷ codes " of " ∷ grouped 4096 ∷ codes " bytes: " ∷ grouped s.machine.world.state.free ∷ codes " are free, and pipes have " ∷ grouped (count_by is_pipe uses)
    ∷ codes "\n  pid program          pages  tables  trapframe     all\n" ∷ [])

-- and each process
abbrev pub IsSharesText : Recorded → List ℕ → Type 0
IsSharesText s text =
    (uses : List FrameUse) × (rest : List ℕ) × AreUses s.machine uses × AreShares s uses 16 1 rest × (text ≡ shares_head s uses ++ rest)

-- ---- what is asked for: one frame, or all

abbrev pub IsFramesText : Recorded → Option ℕ → List ℕ → Type 0
IsFramesText s (Some f) text = IsFrameText s f text
IsFramesText s None text = IsSharesText s text
