-- The words that the laws of rows are said in: which process steps, what it is on, and what its step makes of the state.
use Rattle.std.specs.Prelude.{◌≡◌, ◌≢◌, ℕ, ◌+◌, ◌-◌, pos, Bool, false, true, List, None, Some, IsSome, nat_eq, ◌<◌}
use Rattle.std.specs.FinMap.{FinMap, get}
use Rattle.std.specs.Ordering.{nat_cmp}
use Rattle.xk_base.specs.declared.limits.TheConstants.{NOFILE}
use Rattle.xk_base.specs.Bytes.{image_bytes}
use Rattle.xk_base.specs.Image.{price}
use Rattle.rv64i_core.specs.Registers.{with_pc, after}
use Rattle.pipe_core.specs.Pipe.{Pipe, with_more}
use Rattle.file_table.specs.declared.open_file.End.{End}
use Rattle.file_table.specs.declared.open_file.Target.TheVariants.{Pipe as Pipe_end}
use Rattle.file_table.specs.declared.open_file.OpenFile.{OpenFile}
use Rattle.proc_table.specs.declared.process.Call.{Call}
use Rattle.addr_space.specs.Absent.{brought}
use Rattle.kernel_spec.specs.views.Words.{c_int}
use Rattle.kernel_spec.specs.views.PipeEnds.{fit}
use Rattle.kernel_spec.specs.views.Processes.{Live, Alive}
use Rattle.kernel_spec.specs.views.State.{State}
use Rattle.kernel_spec.specs.views.View.{view_of, numbered, least_on_pipe}
use Rattle.kernel_spec.specs.steps.Own.{Own}
use Rattle.kernel_spec.specs.steps.Step.{call_begun}
use Rattle.kernel_spec.specs.steps.Updates.{changed_state, own_state, alone_state, with_closed, with_answer}
use Rattle.kernel_spec.specs.others.Quiet.{file_at, pipe_at}
use Rattle.kernel_spec.specs.runs.Run.{StateAfter}
use Rattle.kernel_spec.specs.rows.Tables.{lowest_free}

-- process p is live, and is l
abbrev pub IsLive : State → ℕ → Live → Type 0
IsLive s p l = get s.processes p ≡ Some (Alive l)

-- a step of it comes to o, and t is the state after
abbrev pub After : State → ℕ → Live → Own → State → Type 0
After s p l o t = StateAfter s (view_of s p l) o t

-- its next step is an instruction: it isn't marked, and it is in no call
abbrev pub IsBetweenCalls : Live → Type 0
IsBetweenCalls l = (l.killed ≡ false) × (l.call ≡ None)

-- past its ECALL, with the call in progress
abbrev pub begun_live : State → ℕ → Live → Live
begun_live s p l = record l { regs = with_pc l.regs (after l.regs); call = Some (call_begun (view_of s p l)) }

abbrev pub begun_state : ℕ → Live → State → State
begun_state p l s = own_state p (begun_live s p l) s

-- the process, once these pages are there that were absent
abbrev pub touched_live : List ℕ → Live → Live
touched_live pages l = record l { image = brought pages l.image }

-- and the state: what the image costs more, it takes from the free frames
abbrev pub touched_state : List ℕ → ℕ → Live → State → State
touched_state pages p l s = alone_state p (touched_live pages l) s.console (s.free + price l.image - price (brought pages l.image)) s

-- ---- open files

-- the open files of t are those of s that a live process still names
pub record FilesLeft (s t : State) : Type 0 where
  pub stay : (q d g : ℕ) → file_at t q d ≡ Some g → get t.files g ≡ get s.files g
  pub named : (g : ℕ) → IsSome (get t.files g) → (q : ℕ) × (d : ℕ) × (file_at t q d ≡ Some g)

-- no process names the open file; none is on the pipe
abbrev pub NobodyNames : State → ℕ → Type 0
NobodyNames s f = (q d : ℕ) → file_at s q d ≢ Some f

abbrev pub NobodyHas : State → ℕ → Type 0
NobodyHas s j = (q d : ℕ) → pipe_at s q d ≢ Some j

-- k is p's lowest free descriptor
pub record IsLowestUnused (s : State) (p : ℕ) (l : Live) (k : ℕ) : Type 0 where
  pub lowest : lowest_free (view_of s p l).descriptors ≡ Some k
  pub below : k < NOFILE
  pub unused : get l.descriptors k ≡ None

-- p's descriptor d is on this end of pipe i, which is x; k is p's least descriptor on that pipe
pub record OnPipe (s : State) (p : ℕ) (l : Live) (d : ℕ) (i k : ℕ) (end : End) (x : Pipe) : Type 0 where
  pub was : get s.processes p ≡ Some (Alive l)
  pub below : d < NOFILE
  pub file : ℕ
  pub named_file : get l.descriptors d ≡ Some file
  pub read : Bool
  pub write : Bool
  pub opened : get s.files file ≡ Some (record { read = read; write = write; target = Pipe_end i end })
  pub pipe : get s.pipes i ≡ Some x
  pub names : least_on_pipe (numbered s l) i ≡ Some k

-- the buffer of n bytes is there, n above 0
abbrev pub IsBuffer : Call → (ℕ → Bool) → ℕ → Type 0
IsBuffer c is_there n = (c_int c.a2 ≡ pos n) × (nat_eq n 0 ≡ false) × (is_there n ≡ true)

-- how far a write to a pipe has come after a step, and the pipe then
abbrev pub now_moved : Call → Pipe → ℕ → ℕ
now_moved c x n = c.moved + fit x (n - c.moved)

abbrev pub written : Call → Live → Pipe → ℕ → Pipe
written c l x n = with_more (image_bytes l.image (c.a1 + c.moved) (fit x (n - c.moved))) x

-- close: descriptor k is free, and an open file that nobody names any more is given up
abbrev pub closed_state : ℕ → Live → ℕ → FinMap nat_cmp OpenFile → FinMap nat_cmp Pipe → (freed : ℕ) → State → State
closed_state p l k files pipes freed s = changed_state p (with_answer (pos 0) (with_closed k l)) files pipes s.console (s.free + freed) s

-- p's record after a row on descriptors: they are these, and parent and price stay
abbrev pub HasTable : Live → Live → FinMap nat_cmp ℕ → Type 0
HasTable l m descriptors = (m.parent ≡ l.parent) × (price m.image ≡ price l.image) × (m.descriptors ≡ descriptors)
