-- Bytes that move between open files and the memory of a slot: what a read or a write is on, and what a move leaves.
use Rattle.std.specs.Prelude.{◌≡◌, ℕ, ◌<◌, Some, length, set, pos, Bool, true, nat_lt}
use Rattle.std.specs.FinMap.{get, insert}
use Rattle.xk_base.specs.declared.limits.TheConstants.{NOFILE}
use Rattle.xk_base.specs.Image.{Image}
use Rattle.hart_core.specs.declared.hart.Hart.{Hart}
use Rattle.pipe_core.specs.Pipe.{Pipe}
use Rattle.file_table.specs.OpenFiles.{open_file_at}
use Rattle.file_table.specs.declared.open_file.End.{End}
use Rattle.file_table.specs.declared.open_file.End.TheVariants.{Reading, Writing}
use Rattle.file_table.specs.declared.open_file.OpenFile.{OpenFile}
use Rattle.file_table.specs.declared.open_file.Target.TheVariants.{Console as Terminal}
use Rattle.proc_table.specs.declared.channel.Channel.{Channel}
use Rattle.proc_table.specs.declared.channel.Channel.TheVariants as on
use Rattle.proc_table.specs.declared.process.Call.{Call}
use Rattle.kernel_spec.specs.views.Words.{c_int}
use Rattle.kernel_spec.specs.views.View.{View}
use Rattle.kernel_spec.specs.rows.Buffers.{readable, writable_now}
use Rattle.kernel_spec.specs.rows.Calls.{read, write}
use Rattle.kernel_spec.specs.steps.Own.{Own}
use Rattle.kcall_core.specs.Holdings.{held_at, with_image}
use Rattle.kcall_core.specs.Memories.{each_of, pipes_of, free_of, AreSound, RunsIn}
use Rattle.kernel_spec.specs.steps.Cases.{OnPipe, IsBuffer}
use Rattle.kcall_core.specs.Closings.{wakes_if}
use Rattle.kcall_core.specs.Kernel.{state_of, pid_now, live_now}
use Rattle.kcall_core.specs.declared.kernel.Kernel.{Kernel}
use Rattle.kcall_core.specs.declared.memories.Memories.{Memories}

-- the pipe that a frame keeps is another, and so is the image in a slot: all else stays, and no frame is taken or given back
pub record Moves (old new : Memories) (slot : ℕ) (image : Image) (f : ℕ) (pipe : Pipe) : Type 0 where
  pub sound : AreSound new
  pub each : each_of new ≡ set (each_of old) slot (Some (with_image image (held_at (each_of old) slot)))
  pub pipes : pipes_of new ≡ insert (pipes_of old) f pipe
  pub free : free_of new ≡ free_of old
  pub frames : length new.ram ≡ length old.ram
  pub runs : (other : ℕ) (hart : Hart) → RunsIn old other hart → RunsIn new other hart

-- ---- what a read or a write is on

-- descriptor d of the process that runs names the open file g, which is x
pub record InUse (k : Kernel) (h : Hart) (d g : ℕ) (x : OpenFile) : Type 0 where
  pub used : get (live_now k h).descriptors d ≡ Some g
  pub opened : get (state_of k h).files g ≡ Some x
  pub kind : open_file_at k.files g ≡ Some x

-- an open file may be read, or written
abbrev pub allows : End → OpenFile → Bool
allows Reading x = x.read
allows Writing x = x.write

-- the row of a call that takes bytes from an open file, or gives it some
abbrev pub row_on : End → Call → View → Own
row_on Reading = read
row_on Writing = write

-- the call is on an open file, which is x, and asks for n bytes
pub record IsAsked (k : Kernel) (h : Hart) (c : Call) (file : ℕ) (x : OpenFile) (n : ℕ) : Type 0 where
  pub fd : ℕ
  pub below : fd < NOFILE
  pub number : c_int c.a0 ≡ pos fd
  pub source : InUse k h fd file x
  pub count : c_int c.a2 ≡ pos n

-- the call reads from the pipe in a frame, n bytes at most, and all of its buffer is there
pub record ReadsPipe (k : Kernel) (h : Hart) (c : Call) (f n : ℕ) : Type 0 where
  pub fd : ℕ
  pub name : ℕ
  pub end : End
  pub pipe : Pipe
  pub on : OnPipe (state_of k h) (pid_now k) (live_now k h) fd f name end pipe
  pub reads : on.read ≡ true
  pub number : c_int c.a0 ≡ pos fd
  pub buffer : IsBuffer c (writable_now (live_now k h).image c.a1) n

-- the call writes to the pipe in a frame, n bytes in all, and all of its buffer is there
pub record WritesPipe (k : Kernel) (h : Hart) (c : Call) (f n : ℕ) : Type 0 where
  pub fd : ℕ
  pub name : ℕ
  pub end : End
  pub pipe : Pipe
  pub on : OnPipe (state_of k h) (pid_now k) (live_now k h) fd f name end pipe
  pub writes : on.write ≡ true
  pub number : c_int c.a0 ≡ pos fd
  pub buffer : IsBuffer c (readable (live_now k h).image c.a1) n

-- those wake who wait for bytes in a pipe, where so many came and these aren't 0
abbrev pub wakes_readers : ℕ → ℕ → Channel → Bool
wakes_readers f count = wakes_if (nat_lt 0 count) (on.Bytes f)

-- the call is on an open file, which is x, and asks for n bytes, all of which are there in its buffer
pub record OnFile (k : Kernel) (h : Hart) (c : Call) (file : ℕ) (x : OpenFile) (is_there : ℕ → Bool) (n : ℕ) : Type 0 where
  pub fd : ℕ
  pub below : fd < NOFILE
  pub number : c_int c.a0 ≡ pos fd
  pub named_file : get (live_now k h).descriptors fd ≡ Some file
  pub opened : get (state_of k h).files file ≡ Some x
  pub buffer : IsBuffer c is_there n

-- the call reads from the terminal, n bytes at most, and all of its buffer is there
pub record ReadsTerminal (k : Kernel) (h : Hart) (c : Call) (n : ℕ) : Type 0 where
  pub file : ℕ
  pub kind : OpenFile
  pub on : OnFile k h c file kind (writable_now (live_now k h).image c.a1) n
  pub reads : kind.read ≡ true
  pub is : kind.target ≡ Terminal

-- the call writes to the terminal, n bytes in all, and all of its buffer is there
pub record WritesTerminal (k : Kernel) (h : Hart) (c : Call) (n : ℕ) : Type 0 where
  pub file : ℕ
  pub kind : OpenFile
  pub on : OnFile k h c file kind (readable (live_now k h).image c.a1) n
  pub writes : kind.write ≡ true
  pub is : kind.target ≡ Terminal
