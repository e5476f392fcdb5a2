-- The world that a kernel and its hart stand for: the state, and whose turn it is.
use Rattle.std.specs.Prelude.{ℕ, zero, suc, ℤ, if◌then◌else◌, Option, Some, None, is_some, option_map}
use Rattle.std.specs.Ordering.{nat_cmp}
use Rattle.std.specs.FinMap.{FinMap}
use Rattle.std.specs.FinSet.{FinSet, empty, insert}
use Rattle.xk_base.specs.declared.limits.TheConstants.{NPROC}
use Rattle.hart_core.specs.declared.hart.Hart.{Hart}
use Rattle.proc_table.specs.Processes.{channel_of}
use Rattle.proc_table.specs.Slots.{Slots, place_at}
use Rattle.proc_table.specs.declared.process.Process.{Process}
use Rattle.kernel_spec.specs.views.ByPid.{by_pid}
use Rattle.kernel_spec.specs.waking.Turns.{Turns}
use Rattle.kernel_spec.specs.runs.Run.{World}
use Rattle.kcall_core.specs.Kernel.{state_of, pid_now}
use Rattle.kcall_core.specs.declared.kernel.Kernel.{Kernel}

-- ---- slots

abbrev pub slot_entry : ℕ → Option Process → Option (ℕ × ℕ)
slot_entry slot None = None
slot_entry slot (Some p) = Some (p.pid, slot)

-- the slot of each process of a table, zombies too, by pid
unfoldable pub slots_of : Slots → FinMap nat_cmp ℕ
slots_of t = by_pid (λ slot. slot_entry slot (place_at t slot)) NPROC

-- ---- sleepers

-- the process in a place, if it sleeps
abbrev pub sleeper_in : Option Process → Option ℕ
sleeper_in None = None
sleeper_in (Some p) = if is_some (channel_of p) then Some p.pid else None

abbrev pub with_sleeper : Option ℕ → FinSet nat_cmp → FinSet nat_cmp
with_sleeper None sleepers = sleepers
with_sleeper (Some p) sleepers = insert sleepers p

-- those who sleep in the first n slots of a table
unfoldable pub sleepers_below : Slots → (n : ℕ) → FinSet nat_cmp
sleepers_below t zero = empty
sleepers_below t (suc n) = with_sleeper (sleeper_in (place_at t n)) (sleepers_below t n)

-- ---- the turn part, where process 1 is gone with a status, or isn't

unfoldable pub turns_of : Kernel → (halted : Option ℤ) → Turns
turns_of k halted = record {
  slots = slots_of k.table;
  sleepers = sleepers_below k.table NPROC;
  last = k.table.last;
  current = option_map (λ _. pid_now k) k.current;
  halted = halted;
}

abbrev pub world_of : Kernel → Hart → (halted : Option ℤ) → World
world_of k h halted = record { state = state_of k h; turns = turns_of k halted }

-- the same world, but nobody runs
abbrev pub resting : World → World
resting w = record w { turns = record w.turns { current = None } }
