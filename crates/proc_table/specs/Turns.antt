-- Turns: who runs next.
use Rattle.std.specs.Prelude.{◌≡◌, ◌≢◌, ℕ, ◌+◌, ◌-◌, ◌%◌, ◌<◌, ◌≤◌, Bool, true, false, List, Option, Some, None, get_or}
use Rattle.std.specs.Option.{option_map_or}
use Rattle.xk_base.specs.declared.limits.TheConstants.{NPROC}
use Rattle.proc_table.specs.declared.process.Process.{Process}
use Rattle.proc_table.specs.Processes.{is_runnable}
use Rattle.proc_table.specs.Slots.{Slots}

-- a runnable process is in the place
abbrev pub place_is_runnable : Option Process → Bool
place_is_runnable place = option_map_or is_runnable place false

-- how many slots lie between the one that ran last and this one, going upwards and round from the highest to slot 0
abbrev pub distance : ℕ → ℕ → ℕ
distance last slot = (slot + (NPROC - 1) - last) % NPROC

-- the runnable process of least distance is in the slot, or none is runnable
abbrev pub IsNearest : List (Option Process) → ℕ → Option ℕ → Type 0
IsNearest places last None = (k : ℕ) → k < NPROC → place_is_runnable (get_or places k None) ≡ false
IsNearest places last (Some slot) =
    (slot < NPROC)
    × (place_is_runnable (get_or places slot None) ≡ true)
    × ((k : ℕ) → k < NPROC → place_is_runnable (get_or places k None) ≡ true → distance last slot ≤ distance last k)

-- of the slots from one on and below another this is the lowest that has a runnable process, or none has one
abbrev pub IsFirstRunnable : List (Option Process) → ℕ → ℕ → Option ℕ → Type 0
IsFirstRunnable places from end None = (k : ℕ) → from ≤ k → k < end → place_is_runnable (get_or places k None) ≡ false
IsFirstRunnable places from end (Some slot) =
    (from ≤ slot)
    × (slot < end)
    × (place_is_runnable (get_or places slot None) ≡ true)
    × ((k : ℕ) → from ≤ k → k < slot → place_is_runnable (get_or places k None) ≡ false)

-- the turn of one slot brings each other runnable process nearer to its own
abbrev pub BringsNearer : Slots → ℕ → Type 0
BringsNearer t slot = (k : ℕ) → k < NPROC → place_is_runnable (get_or t.places k None) ≡ true → k ≢ slot → distance slot k < distance t.last k
