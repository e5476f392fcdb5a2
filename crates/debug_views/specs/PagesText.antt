-- The tables and pages of a process, as they are shown: a tree (RISC-V Privileged ISA, "Sv39: Page-Based 39-bit Virtual-Memory System").
use Rattle.std.specs.Prelude.{◌≡◌, ℕ, ◌*◌, ◌/◌, ◌==◌, ◌||◌, Bool, not, nat_eq, nat_lt, min, if◌then◌else◌, List, [], ◌∷◌, ◌++◌, flat_map, position, codes, decimal, Option, None, Some}
use Rattle.std.specs.Int.{div_ceil}
use Rattle.std.specs.List.{concat, list_any, list_all, range_with_len}
use Rattle.xk_base.specs.declared.access.Rights.{Rights}
use Rattle.xk_base.specs.declared.limits.TheConstants.{VPN_END}
use Rattle.kcall_core.specs.Observers.{size_of}
use Rattle.kcall_core.specs.declared.kernel.observers.frame_uses.FrameUse.{FrameUse}
use Rattle.xv_machine.specs.FrameUses.{page_frame_at}
use Rattle.xv_machine.specs.Meaning.{Frames, Meaning}
use Rattle.xv_session.specs.Recorded.{Recorded}
use Rattle.debug_words.specs.Texts.{hexadecimal, hexadecimal_places, many, named}
use Rattle.debug_views.specs.Focus.{name_in, no_process}
use Rattle.debug_views.specs.FrameLists.{AreUses, is_root_of, is_upper_of, is_lower_of}
use Rattle.debug_views.specs.FrameText.{rights_shown}
use Rattle.debug_views.specs.PageRuns.{AreRuns, behind_runs}
use Rattle.debug_views.specs.declared.page_runs.Kind.{Kind}
use Rattle.debug_views.specs.declared.page_runs.Kind.TheVariants.{There, Absent, NoTable}
use Rattle.debug_views.specs.declared.page_runs.PageRun.{PageRun}
use Rattle.debug_views.specs.declared.pages.Beside.{Beside}
use Rattle.debug_views.specs.declared.pages.Beside.TheVariants.{OfUpper, OfLower, OfOtherUpper, OfOtherLower}
use Rattle.debug_views.specs.declared.pages.Branches.{Branches}

-- ---- where a run of pages stands in the tree

-- two runs are of one upper table, and of one lower table, or of the room of one
abbrev pub same_upper : (run other : PageRun) → Bool
same_upper run other = nat_eq (other.first / 512 / 512) (run.first / 512 / 512)

abbrev pub same_lower : (run other : PageRun) → Bool
same_lower run other = nat_eq (other.first / 512) (run.first / 512)

-- it is of the same lower table, or else of another upper one
abbrev pub no_other_lower : (run other : PageRun) → Bool
no_other_lower run other = not (same_upper run other) || same_lower run other

-- the other lies so beside a run
abbrev pub lies : (run : PageRun) → Beside → (other : PageRun) → Bool
lies run OfUpper = same_upper run
lies run OfLower = same_lower run
lies run OfOtherUpper = λ other. not (same_upper run other)
lies run OfOtherLower = λ other. not (no_other_lower run other)

-- A run begins a table if none before it is of that table. A branch is the last one if no run behind it has another branch at the same place
abbrev pub branches_among : (before behind : List PageRun) → (run : PageRun) → Branches
branches_among before behind run = record {
  begins_upper = not (list_any (same_upper run) before);
  begins_lower = not (list_any (same_lower run) before);
  last_upper = list_all (same_upper run) behind;
  last_lower = list_all (no_other_lower run) behind;
  last = not (list_any (same_lower run) behind);
}

-- a branch: "├─ " in UTF-8, or "└─ " for the last
abbrev pub branch : (is_last : Bool) → List ℕ
branch is_last = if is_last then 226 ∷ 148 ∷ 148 ∷ 226 ∷ 148 ∷ 128 ∷ 32 ∷ [] else 226 ∷ 148 ∷ 156 ∷ 226 ∷ 148 ∷ 128 ∷ 32 ∷ []

-- what stands before the branches below it: "│  ", or blanks below the last
abbrev pub below : (is_last : Bool) → List ℕ
below is_last = if is_last then codes "   " else 226 ∷ 148 ∷ 130 ∷ 32 ∷ 32 ∷ []

-- ---- tables

-- the frame of a table
abbrev pub table_text : Option ℕ → List ℕ
table_text None = codes "not there\n"
table_text (Some f) = codes "frame " ++ decimal f ++ codes "\n"

abbrev pub root_text : List FrameUse → (p : ℕ) → List ℕ
root_text uses p = codes "root table: " ++ table_text (position (is_root_of p) uses)

-- the branch of a table, and its place
unfoldable pub upper_head : Branches → (place : ℕ) → List ℕ
upper_head b place = concat (branch b.last_upper ∷ codes "upper table " ∷ decimal place ∷ codes ": " ∷ [])

unfoldable pub lower_head : Branches → (place : ℕ) → List ℕ
lower_head b place = concat (below b.last_upper ∷ branch b.last_lower ∷ codes "lower table " ∷ decimal place ∷ codes ": " ∷ [])

-- the frame of the upper table at a place
abbrev pub upper_text : List FrameUse → (p place : ℕ) → Branches → List ℕ
upper_text uses p place b = upper_head b place ++ table_text (position (is_upper_of p place) uses)

-- and of the lower table at a place
abbrev pub lower_text : List FrameUse → (p place : ℕ) → Branches → List ℕ
lower_text uses p place b = lower_head b place ++ table_text (position (is_lower_of p place) uses)

-- ---- pages

abbrev pub frame_text : Option ℕ → List ℕ
frame_text None = []
frame_text (Some f) = codes " " ++ decimal f

-- the frames of so many pages, from one on
abbrev pub frames_text : Frames → (p first count : ℕ) → List ℕ
frames_text frames p first count = flat_map (λ vpn. frame_text (page_frame_at frames p vpn)) (range_with_len first count)

abbrev pub frames_word : (count : ℕ) → List ℕ
frames_word count = if count == 1 then codes "frame" else codes "frames"

-- two dots if there are more pages than are named
abbrev pub frames_end : (count : ℕ) → List ℕ
frames_end count = if nat_lt 4 count then codes " ..\n" else codes "\n"

-- the frames of its first four pages
abbrev pub frames_of_text : Frames → (p : ℕ) → PageRun → List ℕ
frames_of_text frames p run = frames_word run.count ++ frames_text frames p run.first (min run.count 4) ++ frames_end run.count

-- what is known of its pages
abbrev pub kind_text : Frames → (p : ℕ) → PageRun → Kind → List ℕ
kind_text frames p run (There rights) = frames_of_text frames p run
kind_text frames p run Absent = codes "absent\n"
kind_text frames p run NoTable = codes "without a table\n"

abbrev pub rights_in : Kind → Option Rights
rights_in (There rights) = Some rights
rights_in Absent = None
rights_in NoTable = None

-- where they begin, what they allow, and how many they are
abbrev pub pages_head : PageRun → List ℕ
pages_head run = concat (codes "0x" ∷ hexadecimal_places 10 (run.first * 4096) ∷ codes "  " ∷ rights_shown (rights_in run.kind) ∷ codes "  " ∷ many run.count (codes "page") ∷ codes ", " ∷ [])

abbrev pub pages_text : Frames → (p : ℕ) → PageRun → List ℕ
pages_text frames p run = pages_head run ++ kind_text frames p run run.kind

-- ---- a run, behind the tables that begin with it

abbrev pub if_begins : (begins : Bool) → List ℕ → List ℕ
if_begins begins text = if begins then text else []

-- without a lower table its branch is one of the upper table
abbrev pub without_text : Frames → (p : ℕ) → PageRun → Branches → List ℕ
without_text frames p run b = (below b.last_upper ++ branch b.last_lower) ++ pages_text frames p run

-- else it is one of the lower table
abbrev pub below_text : Frames → (p : ℕ) → PageRun → Branches → List ℕ
below_text frames p run b = (below b.last_upper ++ (below b.last_lower ++ branch b.last)) ++ pages_text frames p run

abbrev pub in_table_text : Frames → List FrameUse → (p : ℕ) → PageRun → Branches → List ℕ
in_table_text frames uses p run b = if_begins b.begins_lower (lower_text uses p (run.first / 512) b) ++ below_text frames p run b

abbrev pub leaf_text : Frames → List FrameUse → (p : ℕ) → PageRun → Branches → Kind → List ℕ
leaf_text frames uses p run b NoTable = without_text frames p run b
leaf_text frames uses p run b Absent = in_table_text frames uses p run b
leaf_text frames uses p run b (There rights) = in_table_text frames uses p run b

abbrev pub run_text : Frames → List FrameUse → (p : ℕ) → PageRun → Branches → List ℕ
run_text frames uses p run b = if_begins b.begins_upper (upper_text uses p (run.first / 512 / 512) b) ++ leaf_text frames uses p run b run.kind

-- those that are left, behind those before them
abbrev pub runs_text : Frames → List FrameUse → (p : ℕ) → (before left : List PageRun) → List ℕ
runs_text frames uses p before [] = []
runs_text frames uses p before (run ∷ left) = run_text frames uses p run (branches_among before left run) ++ runs_text frames uses p (before ++ run ∷ []) left

-- ---- all of a process

-- how large its memory is
abbrev pub size_text : (p : ℕ) → (name : Option (List ℕ)) → (size pages : ℕ) → List ℕ
size_text p name size pages = concat (codes "memory of process " ∷ decimal p ∷ named name ∷ codes ": " ∷ many size (codes "byte") ∷ codes ", " ∷ many pages (codes "page") ∷ codes "\n" ∷ [])

-- where it goes on, if there are more pages
abbrev pub go_on_text : (behind end : ℕ) → List ℕ
go_on_text behind end = if nat_lt behind end then codes "there are more: pages " ++ hexadecimal (behind * 4096) ++ codes " goes on\n" else []

-- the number behind the last page of so many bytes
abbrev pub pages_end : (size : ℕ) → ℕ
pages_end size = min (div_ceil size 4096) VPN_END

-- The tables, and the runs of pages from this one on up to the end
abbrev pub IsTreeText : Meaning → List FrameUse → (p begin end : ℕ) → List ℕ → Type 0
IsTreeText m uses p begin end text =
    (runs : List PageRun) × AreRuns m.world.state uses p begin end runs
    × (text ≡ root_text uses p ++ runs_text m.frames uses p [] runs ++ go_on_text (behind_runs begin runs) end)

-- behind how large the memory is
abbrev pub ArePagesFrom : Recorded → (p begin end size : ℕ) → List ℕ → Type 0
ArePagesFrom s p begin end size text =
    (uses : List FrameUse) × (rest : List ℕ) × AreUses s.machine uses × IsTreeText s.machine uses p begin end rest × (text ≡ size_text p (name_in s p) size end ++ rest)

abbrev pub ArePagesOf : Recorded → (p from : ℕ) → (size : Option ℕ) → List ℕ → Type 0
ArePagesOf s p from None text = text ≡ no_process p
ArePagesOf s p from (Some size) text = ArePagesFrom s p (min (from / 4096) (pages_end size)) (pages_end size) size text

-- the tables and pages of process p, from an address on, if it lives
abbrev pub IsPagesText : Recorded → (p from : ℕ) → List ℕ → Type 0
IsPagesText s p from text = ArePagesOf s p from (size_of s.machine.world.state p) text
