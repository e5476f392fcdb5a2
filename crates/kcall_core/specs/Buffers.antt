-- The buffers of reads and writes in progress.
use Rattle.std.specs.Prelude.{◌≡◌, ℕ, ◌<◌, Option, Some, pos, true}
use Rattle.xk_base.specs.Image.{Image}
use Rattle.proc_table.specs.declared.process.Call.{Call}
use Rattle.kernel_spec.specs.views.Words.{c_int}
use Rattle.kernel_spec.specs.views.Processes.{Live}
use Rattle.kernel_spec.specs.views.State.{State, live}
use Rattle.kernel_spec.specs.rows.Buffers.{readable, writable_now}

-- the call c of this number is in progress, has moved bytes, and asks for n bytes
pub record HasMoved (call : Option Call) (number n : ℕ) (c : Call) : Type 0 where
  pub is : call ≡ Some c
  pub row : c.number ≡ pos number
  pub asked : c_int c.a2 ≡ pos n
  pub some : 0 < c.moved

-- All of the buffer of a read (call 5) or a write (call 16) that has moved bytes is there: user code may write it as it stands, or read it
pub record KeepsBuffer (call : Option Call) (image : Image) : Type 0 where
  pub room : (n : ℕ) (c : Call) → HasMoved call 5 n c → writable_now image c.a1 n ≡ true
  pub source : (n : ℕ) (c : Call) → HasMoved call 16 n c → readable image c.a1 n ≡ true

-- it is so of each live process
abbrev pub KeepBuffers : State → Type 0
KeepBuffers s = (p : ℕ) (l : Live) → live s p ≡ Some l → KeepsBuffer l.call l.image
