-- A parent that waits for its children.
use Rattle.std.specs.Prelude.{◌≡◌, ℕ, ◌<◌, ◌≤◌, ℤ, ◌&&◌, Bool, true, false, nat_lt, List, Option, Some, None, IsTrue, get_or}
use Rattle.std.specs.Option.{option_map_or}
use Rattle.std.specs.List.{list_any}
use Rattle.proc_table.specs.declared.process.Process.{Process}
use Rattle.proc_table.specs.declared.table.Reaped.{Reaped}
use Rattle.proc_table.specs.declared.table.Reaped.TheVariants.{NoChild, NoneYet, Gone}
use Rattle.proc_table.specs.Processes.{is_child_of, is_zombie, status_of}
use Rattle.proc_table.specs.Slots.{Slots, Holds, emptied_at}

-- a child of this process is in the place
abbrev pub place_is_child : ℕ → Option Process → Bool
place_is_child parent place = option_map_or (is_child_of parent) place false

-- the process has a child, live or not
abbrev pub HasChild : Slots → ℕ → Type 0
HasChild t parent = IsTrue (list_any (place_is_child parent) t.places)

-- no process is its child
abbrev pub HasNoChild : Slots → ℕ → Type 0
HasNoChild t parent = (slot : ℕ) (p : Process) → Holds t slot p → is_child_of parent p ≡ false

-- all its children live
abbrev pub HasNoneEnded : Slots → ℕ → Type 0
HasNoneEnded t parent = (slot : ℕ) (p : Process) → Holds t slot p → is_child_of parent p ≡ true → is_zombie p ≡ false

-- the ended child of least pid gave up its slot
pub record TakesLeast (old new : Slots) (parent pid : ℕ) (status : ℤ) : Type 0 where
  pub slot : ℕ
  pub child : Process
  pub held : Holds old slot child
  pub is_child : is_child_of parent child ≡ true
  pub pid_is : child.pid ≡ pid
  pub status_is : status_of child ≡ Some status
  pub least : (k : ℕ) (p : Process) → Holds old k p → is_child_of parent p ≡ true → is_zombie p ≡ true → pid ≤ p.pid
  pub after : new ≡ emptied_at slot old

-- what a parent that waits gets, and what becomes of the table
abbrev pub OnReaped : Slots → Slots → ℕ → Reaped → Type 0
OnReaped old new parent NoChild = (new ≡ old) × HasNoChild old parent
OnReaped old new parent NoneYet = (new ≡ old) × HasChild old parent × HasNoneEnded old parent
OnReaped old new parent (Gone pid status) = TakesLeast old new parent pid status

-- ---- slot by slot, as a search finds it

-- a zombie child of this process is in the place
abbrev pub place_has_ended : ℕ → Option Process → Bool
place_has_ended parent place = option_map_or (λ p. is_child_of parent p && is_zombie p) place false

-- the pid in the place; 0, which is no pid, where it is free
abbrev pub pid_of : Option Process → ℕ
pid_of place = option_map_or (λ p. p.pid) place 0

-- of the first n slots this has the ended child of least pid, or none has one
abbrev pub IsLeastEnded : List (Option Process) → ℕ → ℕ → Option ℕ → Type 0
IsLeastEnded places parent n None = (k : ℕ) → k < n → place_has_ended parent (get_or places k None) ≡ false
IsLeastEnded places parent n (Some slot) =
    (slot < n)
    × (place_has_ended parent (get_or places slot None) ≡ true)
    × ((k : ℕ) → k < n → place_has_ended parent (get_or places k None) ≡ true → pid_of (get_or places slot None) ≤ pid_of (get_or places k None))

-- the slot's pid is below the one of the other slot, if there is another
abbrev pub is_first : List (Option Process) → ℕ → Option ℕ → Bool
is_first places slot other = option_map_or (λ k. nat_lt (pid_of (get_or places slot None)) (pid_of (get_or places k None))) other true
