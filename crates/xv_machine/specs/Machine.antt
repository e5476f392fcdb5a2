-- What the fields of a machine stand for, and when they are whole. Only this crate's private functions speak of them.
use Rattle.std.specs.Prelude.{◌≡◌, ◌≤◌, ℕ, ◌^◌, List, length, get_or, Option, None, Some}
use Rattle.xk_base.specs.declared.limits.TheConstants.{NPROC}
use Rattle.xk_base.specs.Gathered.{gathered}
use Rattle.sv39_core.specs.Sv39.{table_at, page_entry}
use Rattle.sv39_core.specs.Tree.{frame_of}
use Rattle.frame_list.specs.Pool.{free_in}
use Rattle.proc_table.specs.Slots.{place_at}
use Rattle.proc_table.specs.declared.process.Process.{Process}
use Rattle.kernel_spec.specs.views.ByPid.{by_pid}
use Rattle.kcall_core.specs.Kernel.{state_of}
use Rattle.kcall_core.specs.Machine as kernel
use Rattle.kcall_core.specs.Machine.{turns_of}
use Rattle.kcall_core.specs.Whole.{IsWhole}
use Rattle.kcall_core.specs.declared.kernel.Kernel.{Kernel}
use Rattle.kcall_core.specs.declared.memories.Memory.{Memory}
use Rattle.xv_machine.specs.declared.machine.Machine.TheInside.{Inside}
use Rattle.xv_machine.specs.Meaning.{Owned, Frames, Meaning}
use Rattle.xv_machine.specs.Sound.{IsHalted}

-- ---- whose each frame is

-- the frames of a memory: its tables by their places, and its pages, as a walk of the tables reaches them
abbrev pub owned_by : List (List ℕ) → Memory → Owned
owned_by ram m = record {
  trapframe = m.trapframe;
  root = m.space.root;
  uppers = gathered (table_at ram m.space.root 1) 256;
  lowers = gathered (table_at ram m.space.root 2) (2 ^ 17);
  pages = gathered (λ v. frame_of (page_entry ram m.space.root v)) (2 ^ 26);
}

-- those of a process, by its pid
abbrev pub owned_entry : List (List ℕ) → Option Process → Option Memory → Option (ℕ × Owned)
owned_entry ram None memory = None
owned_entry ram (Some p) None = None
owned_entry ram (Some p) (Some m) = Some (p.pid, owned_by ram m)

-- those of the process in a slot
abbrev pub owned_at : Kernel → ℕ → Option (ℕ × Owned)
owned_at k slot = owned_entry k.memories.ram (place_at k.table slot) (get_or k.memories.each.items slot None)

unfoldable pub frames_in : Kernel → Frames
frames_in k = record {
  count = length k.memories.ram;
  free = free_in k.memories.pool k.memories.ram;
  owned = by_pid (owned_at k) NPROC;
}

-- ---- the machine

abbrev pub meaning_of : Inside → Meaning
meaning_of m = record { world = kernel.world_of m.kernel m.hart m.halted; frames = frames_in m.kernel; notes = m.trace.items; room = m.trace.capacity }

-- the kernel and its hart are whole, process 1 is live unless the machine is halted, and the trace keeps no more notes than it has room for
pub record IsMachine (m : Inside) : Type 0 where
  pub whole : IsWhole m.kernel m.hart
  pub halted : IsHalted (state_of m.kernel m.hart) (turns_of m.kernel m.halted) m.halted
  pub kept : length m.trace.items ≤ m.trace.capacity

-- the trace stays
abbrev pub SameTrace : Meaning → Meaning → Type 0
SameTrace old new = (new.notes ≡ old.notes) × (new.room ≡ old.room)
