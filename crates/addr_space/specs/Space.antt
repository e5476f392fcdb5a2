-- An address space in RAM: when it is whole, the image that it stands for, the frames that it owns, and what a call on it keeps.
use Rattle.std.specs.Prelude.{◌≡◌, ℕ, ◌+◌, ◌*◌, ◌^◌, ◌≤◌, ◌<◌, true, List, [], Some, None, length}
use Rattle.xk_base.specs.declared.limits.TheConstants.{SIZE_LIMIT}
use Rattle.xk_base.specs.Frames.{copies}
use Rattle.xk_base.specs.Image.{Image, price}
use Rattle.phys_ram.specs.Ram.{frame_at}
use Rattle.frame_list.specs.declared.Pool.{Pool}
use Rattle.frame_list.specs.Pool.{free_in, Good}
use Rattle.frame_list.specs.Traded.{Traded}
use Rattle.sv39_core.specs.declared.entry.Entry.{Entry}
use Rattle.sv39_core.specs.declared.entry.Entry.TheVariants.{Invalid, Table, Leaf}
use Rattle.sv39_core.specs.Sv39.{table_at, page_entry}
use Rattle.sv39_core.specs.Tree.{pages_of, frame_of, uppers, lowers, page_frames, owned, IsTree}
use Rattle.addr_space.specs.declared.Space.{Space}
use Rattle.addr_space.specs.Translations.{WalksStay}

-- ---- one space

-- the image that a space stands for: the pages that a walk of its tables reaches, and its size
abbrev pub image_of : List (List ℕ) → Space → Image
image_of ram space = record { pages = pages_of ram space.root; size = space.size }

-- the frames that a space owns: its root, its tables and its pages
abbrev pub frames_of : List (List ℕ) → Space → List ℕ
frames_of ram space = owned ram space.root

-- each table but the root leads to a page
pub record NoneEmpty (ram : List (List ℕ)) (root : ℕ) : Type 0 where
  pub uppers : (p f : ℕ) → table_at ram root 1 p ≡ Some f → (i : ℕ) × (g : ℕ) × (i < 512) × (table_at ram root 2 (512 * p + i) ≡ Some g)
  pub lowers : (p f : ℕ) → table_at ram root 2 p ≡ Some f → (i : ℕ) × (g : ℕ) × (i < 512) × (frame_of (page_entry ram root (512 * p + i)) ≡ Some g)

-- an entry of a lowest table as the kernel writes it: blank, or a leaf whose bits A and D are set
abbrev pub Usual : Entry → Type 0
Usual Invalid = Unit {0}
Usual (Table f) = ⊥
Usual (Leaf f p a d) = (a ≡ true) × (d ≡ true)

-- the tables are a tree in which no table is empty, its last entries are as the kernel writes them, the counts of pages and tables are right, all pages lie below the end, and the size is within the limit
pub record IsSpace (ram : List (List ℕ)) (space : Space) : Type 0 where
  pub tree : IsTree ram space.root
  pub full : NoneEmpty ram space.root
  pub leaves : (v : ℕ) → Usual (page_entry ram space.root v)
  pub pages : space.pages ≡ length (page_frames ram space.root)
  pub tables : space.tables ≡ 1 + (length (uppers ram space.root) + length (lowers ram space.root))
  pub ends : (v : ℕ) → space.end ≤ v → v < 2 ^ 26 → frame_of (page_entry ram space.root v) ≡ None
  pub size : space.size ≤ SIZE_LIMIT

-- ---- a space and the free frames

-- the pool and the space are of one RAM, and share no frame
pub record Belongs (pool : Pool) (ram : List (List ℕ)) (space : Space) : Type 0 where
  pub good : Good pool ram
  pub whole : IsSpace ram space
  pub apart : (f : ℕ) → copies f (free_in pool ram) + copies f (frames_of ram space) ≤ 1

-- a call on a space: it is still one, with the same root, and only its own frames and free ones were touched
pub record Changed (pool : Pool) (ram : List (List ℕ)) (space : Space) (pool' : Pool) (ram' : List (List ℕ)) (space' : Space) : Type 0 where
  pub whole : IsSpace ram' space'
  pub root : space'.root ≡ space.root
  pub traded : Traded pool ram pool' ram' (frames_of ram space) (frames_of ram' space')

-- a new space, made of free frames
pub record Made (pool : Pool) (ram : List (List ℕ)) (pool' : Pool) (ram' : List (List ℕ)) (space : Space) : Type 0 where
  pub whole : IsSpace ram' space
  pub traded : Traded pool ram pool' ram' [] (frames_of ram' space)

-- a refused call leaves all as it was
pub record Unchanged (pool : Pool) (ram : List (List ℕ)) (space : Space) (pool' : Pool) (ram' : List (List ℕ)) (space' : Space) : Type 0 where
  pub same_pool : pool' ≡ pool
  pub same_ram : ram' ≡ ram
  pub same_space : space' ≡ space

-- what the space's image would cost more, if it were this one, is at most the free frames
abbrev pub Affords : Pool → List (List ℕ) → Space → Image → Type 0
Affords pool ram space image = price image ≤ price (image_of ram space) + length (free_in pool ram)

-- it is more than the free frames
abbrev pub IsTooDear : Pool → List (List ℕ) → Space → Image → Type 0
IsTooDear pool ram space image = price (image_of ram space) + length (free_in pool ram) < price image

-- ---- all other spaces

-- a space that has none of the free frames and none of `mine`
pub record IsStranger (pool : Pool) (ram : List (List ℕ)) (mine : List ℕ) (other : Space) : Type 0 where
  pub whole : IsSpace ram other
  pub apart : (f : ℕ) → 1 ≤ copies f (frames_of ram other) → copies f (free_in pool ram) + copies f mine ≡ 0

-- a space is as it was: its image, its frames, and where each access leads
pub record Spared (ram ram' : List (List ℕ)) (other : Space) : Type 0 where
  pub whole : IsSpace ram' other
  pub image : image_of ram' other ≡ image_of ram other
  pub frames : frames_of ram' other ≡ frames_of ram other
  pub walks : WalksStay ram ram' other.root

-- a call on the owner of `mine` spares every space of another owner
abbrev pub SparesOthers : Pool → List (List ℕ) → List ℕ → List (List ℕ) → Type 0
SparesOthers pool ram mine ram' = (other : Space) → IsStranger pool ram mine other → Spared ram ram' other

-- ---- laws

-- a space whose frames keep their bytes is spared, whatever is written to other frames
abbrev pub Isolation : Type 0
Isolation = (ram ram' : List (List ℕ)) (space : Space) → IsSpace ram space → length ram' ≡ length ram → ((f : ℕ) → 1 ≤ copies f (frames_of ram space) → frame_at ram' f ≡ frame_at ram f) → Spared ram ram' space
