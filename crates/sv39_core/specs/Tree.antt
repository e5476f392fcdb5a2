-- A tree of page tables: the image that it stands for, and the frames that it is made of.
use Rattle.std.specs.Prelude.{◌≡◌, ℕ, ◌^◌, ◌≤◌, ◌<◌, false, List, ◌∷◌, ◌++◌, Option, Some, None, length}
use Rattle.std.specs.Ordering.{nat_cmp}
use Rattle.std.specs.FinMap.{FinMap}
use Rattle.xk_base.specs.Frames.{Once}
use Rattle.xk_base.specs.Image.{Page}
use Rattle.phys_ram.specs.Ram.{frame_at, word_at}
use Rattle.sv39_core.specs.declared.entry.Entry.{Entry}
use Rattle.sv39_core.specs.declared.entry.Entry.TheVariants.{Invalid, Table, Leaf}
use Rattle.sv39_core.specs.Sv39.{flag, given, table_at, page_entry}
use Rattle.sv39_core.specs.Listed.{listed, gathered}

-- ---- the image

abbrev pub page_of : List (List ℕ) → Entry → Option Page
page_of ram (Leaf f r a d) = Some (record { perm = given r a d; bytes = frame_at ram f })
page_of ram (Table f) = None
page_of ram Invalid = None

-- virtual page v, as the tables below a root say
abbrev pub page_at : List (List ℕ) → ℕ → ℕ → Option Page
page_at ram root v = page_of ram (page_entry ram root v)

-- all pages of the lower half of the virtual addresses, as the tables below a root say
unfoldable pub pages_of : List (List ℕ) → ℕ → FinMap nat_cmp Page
pages_of ram root = gathered (page_at ram root) (2 ^ 26)

-- ---- the frames

abbrev pub frame_of : Entry → Option ℕ
frame_of (Leaf f r a d) = Some f
frame_of (Table f) = None
frame_of Invalid = None

-- the tables of the two levels below the root, and the frames of the pages
unfoldable pub uppers : List (List ℕ) → ℕ → List ℕ
uppers ram root = listed (table_at ram root 1) 256

unfoldable pub lowers : List (List ℕ) → ℕ → List ℕ
lowers ram root = listed (table_at ram root 2) (2 ^ 17)

unfoldable pub page_frames : List (List ℕ) → ℕ → List ℕ
page_frames ram root = listed (λ v. frame_of (page_entry ram root v)) (2 ^ 26)

-- the frames of the root, of all tables below it and of all pages
unfoldable pub owned : List (List ℕ) → ℕ → List ℕ
owned ram root = root ∷ (uppers ram root ++ (lowers ram root ++ page_frames ram root))

-- the tables below a root are a tree: no frame has two places in it, and the root's entries for the upper half of the addresses have V clear
pub record IsTree (ram : List (List ℕ)) (root : ℕ) : Type 0 where
  pub once : Once (length ram) (owned ram root)
  pub lower_half : (p : ℕ) → 256 ≤ p → p < 512 → flag (word_at ram root p) 0 ≡ false
