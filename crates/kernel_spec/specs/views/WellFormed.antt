-- What holds of every state that the machine can be in.
use Rattle.std.specs.Prelude.{◌≡◌, ◌≢◌, ℕ, zero, suc, ◌+◌, ◌<◌, ◌≤◌, ◌⊎◌, false, Option, None, Some, IsSome, length}
use Rattle.std.specs.FinMap.{get, len}
use Rattle.xk_base.specs.declared.limits.TheConstants.{NOFILE, NPROC, PIPE_BYTES, CONSOLE_BYTES, SEND_BYTES}
use Rattle.xk_base.specs.Image.{price}
use Rattle.pipe_core.specs.Pipe.{Pipe}
use Rattle.file_table.specs.declared.open_file.End.{End}
use Rattle.file_table.specs.declared.open_file.End.TheVariants.{Reading, Writing}
use Rattle.file_table.specs.declared.open_file.OpenFile.{OpenFile}
use Rattle.file_table.specs.declared.open_file.Target.TheVariants.{Pipe as Pipe_end}
use Rattle.kernel_spec.specs.views.PipeEnds.{is_given_up}
use Rattle.kernel_spec.specs.views.Processes.{Process, Alive, parent_of}
use Rattle.kernel_spec.specs.views.State.{State, live}
use Rattle.kernel_spec.specs.views.View.{numbered}
use Rattle.kernel_spec.specs.rows.Tables.{ends}
use Rattle.kernel_spec.specs.others.Quiet.{file_at}
use Rattle.kernel_spec.specs.waking.Turns.{Turns, HasSlot, Sleeps}

-- f 0 + f 1 + .. + f (n - 1)
unfoldable pub sum_below : ℕ → (ℕ → ℕ) → ℕ
sum_below zero f = 0
sum_below (suc n) f = sum_below n f + f n

-- how many descriptors of a process are on an end of pipe i
abbrev pub on : State → ℕ → End → Option Process → ℕ
on s i end (Some (Alive l)) = ends (numbered s l) i end
on s i end _ = 0

-- how many frames a process has
abbrev pub cost : Option Process → ℕ
cost (Some (Alive l)) = price l.image + 1
cost _ = 0

-- over all processes
abbrev pub over_all : State → (Option Process → ℕ) → ℕ
over_all s f = sum_below s.next_pid (λ p. f (get s.processes p))

-- A process's parent is another, and is live or pid 1; pid 1 has none
pub record HasParent (s : State) (p : ℕ) (x : Process) : Type 0 where
  pub parent : ℕ
  pub is : parent_of x ≡ Some parent
  pub other : parent ≢ p
  pub there : IsSome (live s parent) ⊎ (parent ≡ 1)

-- each descriptor in use is below NOFILE and names an open file, so that a view shows it
abbrev pub AreShown : State → Type 0
AreShown s = (p d f : ℕ) → file_at s p d ≡ Some f → (d < NOFILE) × IsSome (get s.files f)

pub record WellFormed (frames : ℕ) (s : State) : Type 0 where
  -- pids are given once, upwards from 1; where there is a process, pid 1 is there, and has no parent
  pub pids : (p : ℕ) → IsSome (get s.processes p) → (1 ≤ p) × (p < s.next_pid)
  pub first : (p : ℕ) → IsSome (get s.processes p) → (x : Process) × (get s.processes 1 ≡ Some x) × (parent_of x ≡ None)
  pub parents : (p : ℕ) (x : Process) → get s.processes p ≡ Some x → (p ≡ 1) ⊎ HasParent s p x
  -- a descriptor in use is below NOFILE and names an open file, an end of a pipe names a pipe
  pub descriptors : AreShown s
  pub ends : (f i : ℕ) (x : OpenFile) (end : End) → get s.files f ≡ Some x → x.target ≡ Pipe_end i end → IsSome (get s.pipes i)
  -- an open file is named
  pub named : (f : ℕ) → IsSome (get s.files f) → (p : ℕ) × (d : ℕ) × (file_at s p d ≡ Some f)
  -- a pipe's counts are the numbers of descriptors on its ends, and are not both 0
  pub readers : (i : ℕ) (x : Pipe) → get s.pipes i ≡ Some x → x.readers ≡ over_all s (on s i Reading)
  pub writers : (i : ℕ) (x : Pipe) → get s.pipes i ≡ Some x → x.writers ≡ over_all s (on s i Writing)
  pub held : (i : ℕ) (x : Pipe) → get s.pipes i ≡ Some x → is_given_up x ≡ false
  -- no frame is lost
  pub counted : s.free + over_all s cost + len s.pipes ≡ frames
  -- what is bounded
  pub pipe_bytes : (i : ℕ) (x : Pipe) → get s.pipes i ≡ Some x → length x.bytes ≤ PIPE_BYTES
  pub keys : length s.console.committed + length s.console.uncommitted ≤ CONSOLE_BYTES
  pub to_send : length s.console.to_send ≤ SEND_BYTES

-- ---- slots

-- each process has a slot of its own, and nobody else has one; the process that runs is live and doesn't sleep
pub record HasSlots (s : State) (turns : Turns) : Type 0 where
  pub some : (p : ℕ) → IsSome (get s.processes p) → IsSome (get turns.slots p)
  pub only : (p slot : ℕ) → HasSlot turns p slot → IsSome (get s.processes p)
  pub below : (p slot : ℕ) → HasSlot turns p slot → slot < NPROC
  pub last : turns.last < NPROC
  pub current : (p : ℕ) → turns.current ≡ Some p → IsSome (live s p) × ¬ Sleeps turns p
  pub apart : (p q slot : ℕ) → HasSlot turns p slot → HasSlot turns q slot → p ≡ q
