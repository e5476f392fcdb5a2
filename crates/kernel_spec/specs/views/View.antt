-- What one process can see of the state: its view. Each step of the process is a function of it.
-- What isn't in it, the process can't tell: other processes' memory and registers, which slots they have, who sleeps, which frames hold what.
use Rattle.std.specs.Prelude.{ℕ, Bool, if◌then◌else◌, List, [], Option, None, Some, ℤ, pos, negsuc, nat_lt, option_map, unwrap_or}
use Rattle.std.specs.FinMap.{get, keys}
use Rattle.xk_base.specs.declared.limits.TheConstants.{NOFILE}
use Rattle.kernel_spec.specs.views.State.{ProgramFile, State, live}
use Rattle.xk_base.specs.Words.{least_below}
use Rattle.xk_base.specs.Image.{Image}
use Rattle.rv64i_core.specs.Registers.{Registers}
use Rattle.pipe_core.specs.Pipe.{Pipe}
use Rattle.console_core.specs.Lists.{Console}
use Rattle.file_table.specs.declared.open_file.End.{End}
use Rattle.file_table.specs.declared.open_file.Target.{Target}
use Rattle.file_table.specs.declared.open_file.Target.TheVariants.{Console as Terminal, Program as File, Pipe as Pipe_end}
use Rattle.proc_table.specs.declared.process.Call.{Call}
use Rattle.kernel_spec.specs.views.Words.{◌>>=◌, is_this}
use Rattle.kernel_spec.specs.views.Processes.{Process, Live, Alive, Zombie, Child, Running, Status}

-- what a descriptor is on
pub data Shown : Type 0 where
  Shown_terminal : Shown
  -- a program's file, by its place in the program table, and the offset of the next byte
  Shown_file : (program : ℕ) (offset : ℕ) → Shown
  -- an end of a pipe, which has a name, and is shown with its bytes and counts
  Shown_pipe : (name : ℕ) (end : End) (pipe : Pipe) → Shown

-- a descriptor in use: the open file's name, what may be done with it, and what it is
pub record Descriptor : Type 0 where
  pub file : ℕ
  pub read : Bool
  pub write : Bool
  pub shown : Shown

-- the descriptors by their numbers
abbrev pub Descriptors : Type 0
Descriptors = ℕ → Option Descriptor

pub record View : Type 0 where
  pub pid : ℕ
  pub regs : Registers
  pub image : Image
  -- the kernel call that it is in
  pub call : Option Call
  -- its kill mark
  pub killed : Bool
  pub descriptors : Descriptors
  -- by their pids, live or not
  pub children : ℕ → Option Child
  pub console : Console
  -- the pids in use, rising; those of zombies too
  pub pids : List ℕ
  pub clock : ℕ
  pub next_pid : ℕ
  -- how many frames are free
  pub free : ℕ
  pub programs : List ProgramFile

abbrev pub by_number : Descriptors → ℤ → Option Descriptor
by_number t (pos d) = t d
by_number t (negsuc k) = None

-- the descriptor of this number, if it is in use
abbrev pub in_use : View → ℤ → Option Descriptor
in_use v number = by_number v.descriptors number

-- ---- names of open files and pipes: a process sees only where two descriptors are on the same one

abbrev pub file_name : Option Descriptor → Option ℕ
file_name o = option_map (λ (d : Descriptor). d.file) o

abbrev pub shown_pipe_name : Shown → Option ℕ
shown_pipe_name (Shown_pipe name end pipe) = Some name
shown_pipe_name _ = None

abbrev pub pipe_name : Option Descriptor → Option ℕ
pipe_name o = do d ← o; shown_pipe_name d.shown

-- the least descriptor on the open file of this name
abbrev pub least_on_file : Descriptors → ℕ → Option ℕ
least_on_file t name = least_below (λ d. is_this name (file_name (t d))) NOFILE

-- the least descriptor on the pipe of this name
abbrev pub least_on_pipe : Descriptors → ℕ → Option ℕ
least_on_pipe t name = least_below (λ d. is_this name (pipe_name (t d))) NOFILE

abbrev pub rename_shown : Descriptors → Shown → Shown
rename_shown t (Shown_pipe name end pipe) = Shown_pipe (unwrap_or (least_on_pipe t name) name) end pipe
rename_shown t shown = shown

abbrev pub rename : Descriptors → Descriptor → Descriptor
rename t d = record d { file = unwrap_or (least_on_file t d.file) d.file; shown = rename_shown t d.shown }

-- the same table, where each open file and each pipe is named by the least descriptor on it
unfoldable pub named : Descriptors → Descriptors
named t = λ d. if nat_lt d NOFILE then option_map (rename t) (t d) else None

-- ---- the view

-- a pipe; a number that no pipe has shows one that nobody is on, as no pipe of the state is
abbrev pub or_gone : Option Pipe → Pipe
or_gone None = record { bytes = []; readers = 0; writers = 0 }
or_gone (Some p) = p

abbrev pub show : State → Target → Shown
show s Terminal = Shown_terminal
show s (File program offset) = Shown_file program offset
show s (Pipe_end pipe end) = Shown_pipe pipe end (or_gone (get s.pipes pipe))

-- the descriptors, under the kernel's own numbers of open files and pipes
abbrev pub numbered : State → Live → Descriptors
numbered s l = λ d. do
  file ← get l.descriptors d
  f ← get s.files file
  Some (record { file = file; read = f.read; write = f.write; shown = show s f.target })

-- what process p sees of a process: a child, if it is p's
abbrev pub child_of : ℕ → Option Process → Option Child
child_of p None = None
child_of p (Some (Alive l)) = if is_this p l.parent then Some Running else None
child_of p (Some (Zombie parent status)) = if is_this p parent then Some (Status status) else None

-- the view of process p, which is l
unfoldable pub view_of : State → ℕ → Live → View
view_of s p l = record {
  pid = p;
  regs = l.regs;
  image = l.image;
  call = l.call;
  killed = l.killed;
  descriptors = named (numbered s l);
  children = λ q. child_of p (get s.processes q);
  console = s.console;
  pids = keys s.processes;
  clock = s.clock;
  next_pid = s.next_pid;
  free = s.free;
  programs = s.programs;
}

-- the view of a live process
abbrev pub view : State → ℕ → Option View
view s p = option_map (view_of s p) (live s p)
