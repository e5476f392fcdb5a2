-- The process table, as its callers see it.
use Rattle.std.specs.Prelude.{◌≡◌, ℕ, ◌+◌, ◌-◌, ◌<◌, ◌≤◌, ℤ, Bool, false, nat_le, if◌then◌else◌, List, Option, Some, None, IsSome, IsTrue, is_none, length, get_or, set, map, option_map, position, replicate}
use Rattle.std.specs.Option.{option_map_or}
use Rattle.xk_base.specs.declared.limits.TheConstants.{NPROC, PID_MAX}
use Rattle.file_table.specs.Named.{none_named}
use Rattle.proc_table.specs.declared.process.Call.{Call}
use Rattle.proc_table.specs.declared.process.Process.{Process}
use Rattle.proc_table.specs.Processes.{has_pid, is_live, is_marked, is_asleep, status_of, call_of, newborn, killed}

-- the process in each slot, the descriptors of each slot, the next pid, and the slot that ran last
pub record Slots : Type 0 where
  pub places : List (Option Process)
  pub descriptors : List (List (Option ℕ))
  pub next : ℕ
  pub last : ℕ

-- what stands in a slot
abbrev pub place_at : Slots → ℕ → Option Process
place_at t slot = get_or t.places slot None

-- this process is in the slot
abbrev pub Holds : Slots → ℕ → Process → Type 0
Holds t slot p = place_at t slot ≡ Some p

-- a process, live or not, is in the slot
abbrev pub IsHeld : Slots → ℕ → Type 0
IsHeld t slot = IsSome (place_at t slot)

-- a live process is in the place
abbrev pub place_is_live : Option Process → Bool
place_is_live place = option_map_or is_live place false

-- a live process is in the slot
abbrev pub IsLiveAt : Slots → ℕ → Type 0
IsLiveAt t slot = IsTrue (place_is_live (place_at t slot))

-- ---- what is told of a slot

-- the pid of a process
abbrev pub process_pid : Process → ℕ
process_pid p = p.pid

-- the parent of a process
abbrev pub process_parent : Process → Option ℕ
process_parent p = p.parent

-- the pid in a slot
abbrev pub pid_at : Slots → ℕ → Option ℕ
pid_at t slot = option_map process_pid (place_at t slot)

-- the parent of the process in a slot, if it has one
abbrev pub parent_at : Slots → ℕ → Option (Option ℕ)
parent_at t slot = option_map process_parent (place_at t slot)

-- whether the process in a slot is marked
abbrev pub mark_at : Slots → ℕ → Option Bool
mark_at t slot = option_map is_marked (place_at t slot)

-- the status of the process in a slot, if it has ended
abbrev pub status_at : Slots → ℕ → Option (Option ℤ)
status_at t slot = option_map status_of (place_at t slot)

-- the call of the process in a slot, if it is in one
abbrev pub call_at : Slots → ℕ → Option (Option Call)
call_at t slot = option_map call_of (place_at t slot)

-- whether the process in a slot sleeps
abbrev pub sleep_at : Slots → ℕ → Option Bool
sleep_at t slot = option_map is_asleep (place_at t slot)

-- the descriptors of a slot
abbrev pub descriptors_at : Slots → ℕ → List (Option ℕ)
descriptors_at t slot = get_or t.descriptors slot none_named

-- ---- changes

-- of every process
abbrev pub each_changed : (Process → Process) → Slots → Slots
each_changed f t = record t { places = map (option_map f) t.places }

-- of the process in one slot
abbrev pub changed_at : ℕ → (Process → Process) → Slots → Slots
changed_at slot f t = record t { places = set t.places slot (option_map f (place_at t slot)) }

-- the slot's process is gone
abbrev pub emptied_at : ℕ → Slots → Slots
emptied_at slot t = record t { places = set t.places slot None }

-- ---- pids

-- no pid stands twice, and each is below the next one
pub record ArePids (places : List (Option Process)) (next : ℕ) : Type 0 where
  pub apart : (i j : ℕ) (p q : Process) → get_or places i None ≡ Some p → get_or places j None ≡ Some q → p.pid ≡ q.pid → i ≡ j
  pub below : (i : ℕ) (p : Process) → get_or places i None ≡ Some p → p.pid < next

-- what is true of every table
pub record IsTable (t : Slots) : Type 0 where
  pub places : length t.places ≡ NPROC
  pub descriptors : length t.descriptors ≡ NPROC
  pub last : t.last < NPROC
  pub first : 1 ≤ t.next
  pub next : t.next ≤ PID_MAX + 1
  pub pids : ArePids t.places t.next

-- no slot from this number on is held
pub record HoldsNoneFrom (places : List (Option Process)) (top : ℕ) : Type 0 where
  pub within : top ≤ NPROC
  pub free : (slot : ℕ) → top ≤ slot → get_or places slot None ≡ None

-- the process of this pid is in the place
abbrev pub place_has_pid : ℕ → Option Process → Bool
place_has_pid pid place = option_map_or (has_pid pid) place false

-- the slot of a process
abbrev pub slot_of : Slots → ℕ → Option ℕ
slot_of t pid = position (place_has_pid pid) t.places

-- the process in the slot, if there is one, is marked and awake
abbrev pub with_mark : Option ℕ → Slots → Slots
with_mark None t = t
with_mark (Some slot) t = changed_at slot killed t

-- the slot that a new process takes: the lowest that is free, and none where the pids are used up
abbrev pub slot_for_new : Slots → Option ℕ
slot_for_new t = if nat_le t.next PID_MAX then position is_none t.places else None

-- a new process with the next pid, and no descriptor in use
abbrev pub with_new : ℕ → Option ℕ → Slots → Slots
with_new slot parent t = record t { places = set t.places slot (Some (newborn t.next parent)); descriptors = set t.descriptors slot none_named; next = t.next + 1 }

-- no process yet, and slot 0 has the first turn
abbrev pub no_process : ℕ → Slots
no_process first = record { places = replicate NPROC None; descriptors = replicate NPROC none_named; next = first; last = NPROC - 1 }
