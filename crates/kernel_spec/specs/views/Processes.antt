-- Processes (the xv6 book, "Process overview"). A process is live, or a zombie: it has ended, and its parent has not waited for it yet.
use Rattle.std.specs.Prelude.{ℕ, ℤ, pos, Bool, true, false, Option, Some}
use Rattle.std.specs.FinMap.{FinMap}
use Rattle.std.specs.Ordering.{nat_cmp}
use Rattle.xk_base.specs.Image.{Image}
use Rattle.rv64i_core.specs.Registers.{Registers}
use Rattle.proc_table.specs.declared.process.Call.{Call}

pub record Live : Type 0 where
  pub regs : Registers
  pub image : Image
  -- the open file that each descriptor names
  pub descriptors : FinMap nat_cmp ℕ
  -- the process that may wait for it
  pub parent : Option ℕ
  -- its kill mark
  pub killed : Bool
  -- the kernel call that it is in
  pub call : Option Call

pub data Process : Type 0 where
  Alive : Live → Process
  Zombie : (parent : Option ℕ) (status : ℤ) → Process

-- the process that may wait for it
abbrev pub parent_of : Process → Option ℕ
parent_of (Alive l) = l.parent
parent_of (Zombie parent status) = parent

-- what a parent sees of a child
pub data Child : Type 0 where
  Running : Child
  Status : ℤ → Child

abbrev pub has_status : Option Child → Bool
has_status (Some (Status status)) = true
has_status _ = false

abbrev pub child_status : Option Child → ℤ
child_status (Some (Status status)) = status
child_status _ = pos 0
