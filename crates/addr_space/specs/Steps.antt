-- The states between the writes of one call. Only this crate's private functions speak of them.
use Rattle.std.specs.Prelude.{◌≡◌, ℕ, ◌+◌, ◌/◌, ◌≤◌, ◌<◌, List, Option, Some, None, length}
use Rattle.std.specs.FinMap.{insert}
use Rattle.xk_base.specs.Frames.{copies}
use Rattle.xk_base.specs.declared.access.Rights.{Rights}
use Rattle.phys_ram.specs.Ram.{frame_at, zero_frame, WordWritten}
use Rattle.frame_list.specs.declared.Pool.{Pool}
use Rattle.frame_list.specs.Pool.{free_in, Good}
use Rattle.frame_list.specs.Traded.{Traded, Taken, Given}
use Rattle.sv39_core.specs.Sv39.{table_at, page_entry, table_word, leaf_word}
use Rattle.sv39_core.specs.Tree.{page_at, pages_of, owned, IsTree}

-- the pool and the tree are of one RAM, and share no frame
pub record Holds (pool : Pool) (ram : List (List ℕ)) (root : ℕ) : Type 0 where
  pub good : Good pool ram
  pub tree : IsTree ram root
  pub apart : (f : ℕ) → copies f (free_in pool ram) + copies f (owned ram root) ≤ 1

-- the tree stands for the same pages; frames may have moved between the pool and it
pub record SameImage (pool : Pool) (ram : List (List ℕ)) (pool' : Pool) (ram' : List (List ℕ)) (root : ℕ) : Type 0 where
  pub holds : Holds pool' ram' root
  pub count : length ram' ≡ length ram
  pub image : (v : ℕ) → page_at ram' root v ≡ page_at ram root v
  pub frames : (f : ℕ) → copies f (free_in pool' ram') + copies f (owned ram' root) ≡ copies f (free_in pool ram) + copies f (owned ram root)
  pub others : (f : ℕ) → copies f (free_in pool ram) ≡ 0 → copies f (owned ram root) ≡ 0 → frame_at ram' f ≡ frame_at ram f

-- a frame g is taken and hung into entry i of table f
pub record Hanging (pool : Pool) (ram : List (List ℕ)) (pool' : Pool) (ram' : List (List ℕ)) (f i g : ℕ) : Type 0 where
  pub mid : List (List ℕ)
  pub taken : Taken pool ram pool' mid g
  pub put : WordWritten mid ram' f i (table_word g)
  pub small : g < 32768

-- a frame g is taken and becomes the page of entry i of table f
pub record Placing (pool : Pool) (ram : List (List ℕ)) (pool' : Pool) (ram' : List (List ℕ)) (f i g : ℕ) (perm : Rights) : Type 0 where
  pub mid : List (List ℕ)
  pub taken : Taken pool ram pool' mid g
  pub put : WordWritten mid ram' f i (leaf_word g perm)
  pub small : g < 32768

-- page v is now a page of zeros; frames may have moved between the pool and the tree
pub record PageAdded (pool : Pool) (ram : List (List ℕ)) (pool' : Pool) (ram' : List (List ℕ)) (root v : ℕ) (perm : Rights) : Type 0 where
  pub holds : Holds pool' ram' root
  pub count : length ram' ≡ length ram
  pub pages : pages_of ram' root ≡ insert (pages_of ram root) v (record { perm = perm; bytes = zero_frame })
  pub frames : (f : ℕ) → copies f (free_in pool' ram') + copies f (owned ram' root) ≡ copies f (free_in pool ram) + copies f (owned ram root)
  pub others : (f : ℕ) → copies f (free_in pool ram) ≡ 0 → copies f (owned ram root) ≡ 0 → frame_at ram' f ≡ frame_at ram f

-- one frame for what is missing
abbrev pub missing : Option ℕ → ℕ
missing None = 1
missing (Some f) = 0

-- how many frames page v takes where there is none: its own, and one for each table that is missing on the way
unfoldable pub rise : List (List ℕ) → ℕ → ℕ → ℕ
rise ram root v = 1 + (missing (table_at ram root 2 (v / 512)) + missing (table_at ram root 1 (v / 262144)))

-- the tables and pages stay, save those on the way to page v
pub record Beside (ram ram' : List (List ℕ)) (root v : ℕ) : Type 0 where
  pub uppers : (p : ℕ) → (p ≡ v / 262144 → ⊥) → table_at ram' root 1 p ≡ table_at ram root 1 p
  pub lowers : (p : ℕ) → (p ≡ v / 512 → ⊥) → table_at ram' root 2 p ≡ table_at ram root 2 p
  pub pages : (u : ℕ) → (u ≡ v → ⊥) → page_entry ram' root u ≡ page_entry ram root u

-- entry i of table f is made blank, and the frame g that it led to is given back
pub record Cleared (pool : Pool) (ram : List (List ℕ)) (pool' : Pool) (ram' : List (List ℕ)) (f i g : ℕ) : Type 0 where
  pub mid : List (List ℕ)
  pub put : WordWritten ram mid f i 0
  pub same : free_in pool mid ≡ free_in pool ram
  pub given : Given pool mid pool' ram' g

-- n frames of a tree are given back; beside the way to page v nothing changed
pub record Freed (pool : Pool) (ram : List (List ℕ)) (pool' : Pool) (ram' : List (List ℕ)) (root v n : ℕ) : Type 0 where
  pub holds : Holds pool' ram' root
  pub traded : Traded pool ram pool' ram' (owned ram root) (owned ram' root)
  pub beside : Beside ram ram' root v
  pub less : length (owned ram root) ≡ n + length (owned ram' root)
