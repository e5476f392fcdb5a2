-- Slots and turns: who runs, and who sleeps (the xv6 book, "Code: Scheduling"). No process sees them.
use Rattle.std.specs.Prelude.{◌≡◌, ℕ, ℤ, ◌<◌, ◌≤◌, Option, Some, true}
use Rattle.std.specs.FinMap.{FinMap, get}
use Rattle.std.specs.FinSet.{FinSet, contains}
use Rattle.std.specs.Ordering.{nat_cmp}
use Rattle.xk_base.specs.declared.limits.TheConstants.{NPROC}

pub record Turns : Type 0 where
  -- the slot of each process, zombies too
  pub slots : FinMap nat_cmp ℕ
  -- the processes that sleep
  pub sleepers : FinSet nat_cmp
  -- the slot that had the last turn
  pub last : ℕ
  -- the process that runs
  pub current : Option ℕ
  -- the status with which pid 1 went, after which nothing runs
  pub halted : Option ℤ

abbrev pub Sleeps : Turns → ℕ → Type 0
Sleeps t p = contains t.sleepers p ≡ true

abbrev pub HasSlot : Turns → ℕ → ℕ → Type 0
HasSlot t p slot = get t.slots p ≡ Some slot

-- no process has the slot
abbrev pub IsFreeSlot : Turns → ℕ → Type 0
IsFreeSlot t slot = (p : ℕ) → ¬ HasSlot t p slot

-- the lowest slot that no process has
abbrev pub IsLowestFree : Turns → ℕ → Type 0
IsLowestFree t slot = (slot < NPROC) × IsFreeSlot t slot × ((k : ℕ) → IsFreeSlot t k → slot ≤ k)
