-- A process is made: its slot and its memory.
use Rattle.std.specs.Prelude.{◌≡◌, ℕ, ◌+◌, ◌<◌, ◌⊎◌, None, Some}
use Rattle.xk_base.specs.declared.limits.TheConstants.{NPROC}
use Rattle.xk_base.specs.Image.{price}
use Rattle.rv64i_core.specs.Registers.{fresh}
use Rattle.proc_table.specs.Slots.{slot_for_new, with_new}
use Rattle.kcall_core.specs.Holdings.{held_at, with_saved}
use Rattle.kcall_core.specs.Memories.{each_of, free_of, SlotChanges, Same}
use Rattle.kcall_core.specs.Kernel.{slot_now, pid_now}
use Rattle.kcall_core.specs.declared.kernel.Kernel.{Kernel}

-- the process that runs has a child in the slot for a new process, with a copy of its memory, and without descriptors
pub record Bears (k : Kernel) (slot pid : ℕ) (k' : Kernel) : Type 0 where
  pub free : slot_for_new k.table ≡ Some slot
  pub below : slot < NPROC
  pub named : pid ≡ k.table.next
  pub table : k'.table ≡ with_new slot (Some (pid_now k)) k.table
  pub memories : SlotChanges k.memories k'.memories slot (Some (with_saved (fresh 0) (held_at (each_of k.memories) (slot_now k))))
  pub rest : k' ≡ record k { table = k'.table; memories = k'.memories }

-- there is no slot or no pid for a child, or too few frames; nothing is another
pub record IsBarren (k k' : Kernel) : Type 0 where
  pub why : (slot_for_new k.table ≡ None) ⊎ (free_of k.memories < price (held_at (each_of k.memories) (slot_now k)).image + 1)
  pub same : Same k.memories k'.memories
  pub rest : k' ≡ record k { memories = k'.memories }
