-- Why a kernel call is refused: for each call its tests, in the order of its row (the rows are those of kernel_spec), each with its reason. In a list
-- of tests, c is the call (its number and its arguments a0, a1 and a2), and f what is known of its caller. A test is a pair: (R, t) tells the
-- reason R if t holds. They are read top down, and the first that holds tells the reason. `short` stands for the one test that a machine doesn't show,
-- the last of its call: that what the call takes isn't there. A number that is an argument is a C int. Sections are those of the xv6 book.
use Rattle.std.specs.Prelude.{ℕ, ◌+◌, ◌-◌, ◌+ℤ◌, ◌==◌, ◌&&◌, ◌||◌, Bool, true, false, not, if◌then◌else◌, List, [], ◌∷◌, length, Option, None, Some, find, option_map, ℤ, pos, negsuc}
use Rattle.std.specs.Prelude.{nat_lt, nat_le, is_none}
use Rattle.std.specs.Ordering.{int_eq}
use Rattle.xk_base.specs.declared.limits.TheConstants.{ARG_BYTES, MAXARG, MAXPATH, NPROC, PID_MAX, SIZE_LIMIT}
use Rattle.xk_base.specs.Image.{Image, price}
use Rattle.xk_base.specs.Loaded.{Loaded, loaded}
use Rattle.xk_base.specs.declared.errors.ExecError.{ExecError}
use Rattle.addr_space.specs.Absent.{pages_at}
use Rattle.proc_table.specs.declared.process.Call.{Call}
use Rattle.kernel_spec.specs.rows.Buffers as buffers
use Rattle.kernel_spec.specs.rows.Buffers.{grown, shrunk}
use Rattle.kernel_spec.specs.rows.Calls.{Row, Fork, Wait, Pipe_row, Read, Kill, Exec, Dup, Sbrk, Open, Write, Close, Sbrklazy, row_of}
use Rattle.kernel_spec.specs.rows.Lines.{result_of}
use Rattle.kernel_spec.specs.rows.Touches.{touch}
use Rattle.kernel_spec.specs.views.Programs.{program_named}
use Rattle.kernel_spec.specs.views.State.{ProgramFile}
use Rattle.kernel_spec.specs.views.View.{View}
use Rattle.kernel_spec.specs.views.Words.{c_int, minus_one}
use Rattle.call_reasons.specs.Facts.{Facts, facts_of}
use Rattle.call_reasons.specs.Loading.{bad_header, is_bad_header, is_not_elf, is_too_long, load_error}
use Rattle.call_reasons.specs.Texts.{has_texts, is_console, is_named, name_in, text_at, texts_at}
use Rattle.call_reasons.specs.declared.opened.Opened.{Opened}
use Rattle.call_reasons.specs.declared.reason.Reason.{Reason}
use Rattle.call_reasons.specs.declared.reason.Reason.TheVariants.{NoCall, NotOpen, NotForReading, NotForWriting, BelowZero, NotReadable, NotWritable, NoReader, NoChild, NoProcess, NoDescriptor}
use Rattle.call_reasons.specs.declared.reason.Reason.TheVariants.{BadSize, NoFrames, NoRoom, NoPath, NoList, NotNamed, NoProgram, NotInMode, NotElf, BadHeader, LongWords}

-- ---- lists of tests

-- the reason of the first test that holds, if one does
abbrev pub first : List (Reason × Bool) → Option Reason
first tests = option_map (λ t. t.0) (find (λ t. t.1) tests)

-- ---- numbers

abbrev pub is_below_zero : ℤ → Bool
is_below_zero (pos n) = false
is_below_zero (negsuc k) = true

-- the number, and 0 if it is below 0
abbrev pub at_least_zero : ℤ → ℕ
at_least_zero (pos n) = n
at_least_zero (negsuc k) = 0

-- ---- what tests ask of facts

-- a descriptor is there, and may be read by
abbrev pub may_be_read : Option Opened → Bool
may_be_read None = false
may_be_read (Some d) = d.reads

-- it is there, and may be written by
abbrev pub may_be_written : Option Opened → Bool
may_be_written None = false
may_be_written (Some d) = d.writes

-- it is there, and is on a program's file
abbrev pub is_on_file : Option Opened → Bool
is_on_file None = false
is_on_file (Some d) = d.is_file

-- it is there, and is on a pipe from which nobody can read
abbrev pub has_no_reader : Option Opened → Bool
has_no_reader None = false
has_no_reader (Some d) = d.is_unread

-- how many bytes memory would have after it has changed by so many
abbrev pub size_after : (size : ℕ) → (change : ℤ) → ℤ
size_after size change = pos size +ℤ change

-- what has this name may be opened in the mode: the console to be read (0), to be written (1) or both (2), a program's file to be read
abbrev pub opens_in : (name : List ℕ) → (mode : ℤ) → Bool
opens_in name mode = not (is_below_zero mode) && (if is_console name then nat_le (at_least_zero mode) 2 else at_least_zero mode == 0)

-- fewer than 0, or more than memory can have
abbrev pub is_bad_size : ℤ → Bool
is_bad_size size = is_below_zero size || nat_lt SIZE_LIMIT (at_least_zero size)

-- ---- the tests of each call

module _ (c : Call) (f : Facts) (short : Bool) where
  -- fork() ("Processes and memory")
  abbrev pub of_fork : List (Reason × Bool)
  of_fork = (NoRoom f.free, short) ∷ []

  -- wait(a) ("Code: Wait, exit, and kill")
  abbrev pub of_wait : List (Reason × Bool)
  of_wait =
      (NotWritable c.a0 4, not (c.a0 == 0) && not (f.writes c.a0 4))
      ∷ (NoChild, not f.has_child)
      ∷ (NoFrames f.free, short)
      ∷ []

  -- pipe(a) ("Pipes", "Code: Pipes")
  abbrev pub of_pipe : List (Reason × Bool)
  of_pipe =
      (NotWritable c.a0 8, not (f.writes c.a0 8))
      ∷ (NoDescriptor f.free_descriptors, nat_lt f.free_descriptors 2)
      ∷ (NoFrames f.free, short)
      ∷ []

  -- read(fd, a, n) ("I/O and File descriptors")
  abbrev pub of_read : List (Reason × Bool)
  of_read =
      (NotOpen (c_int c.a0), is_none (f.opened (c_int c.a0)))
      ∷ (NotForReading (c_int c.a0), not (may_be_read (f.opened (c_int c.a0))))
      ∷ (BelowZero (c_int c.a2), is_below_zero (c_int c.a2))
      ∷ (NotWritable c.a1 (at_least_zero (c_int c.a2)), not (f.writes c.a1 (at_least_zero (c_int c.a2))))
      ∷ (NoFrames f.free, short)
      ∷ []

  -- kill(pid) ("Code: Wait, exit, and kill")
  abbrev pub of_kill : List (Reason × Bool)
  of_kill = (NoProcess (c_int c.a0), not (f.is_pid (c_int c.a0))) ∷ []

  -- a program that is loaded with this error, if it is one ("Code: exec")
  abbrev pub of_loading : Option ExecError → List (Reason × Bool)
  of_loading error =
      (NotElf, is_not_elf error)
      ∷ (BadHeader (bad_header error), is_bad_header error)
      ∷ (LongWords, is_too_long error)
      ∷ (NoFrames f.free, short)
      ∷ []

  -- exec(path, argv) ("Code: exec")
  abbrev pub of_exec : List (Reason × Bool)
  of_exec =
      (NoPath c.a0, is_none (text_at f MAXPATH c.a0))
      ∷ (NoList c.a1, not (has_texts f MAXARG ARG_BYTES c.a1))
      ∷ (NoProgram, not (f.is_program (name_in (text_at f MAXPATH c.a0))))
      ∷ of_loading (load_error (f.file (name_in (text_at f MAXPATH c.a0))) (texts_at f MAXARG ARG_BYTES c.a1))

  -- dup(fd) ("I/O and File descriptors")
  abbrev pub of_dup : List (Reason × Bool)
  of_dup =
      (NotOpen (c_int c.a0), is_none (f.opened (c_int c.a0)))
      ∷ (NoDescriptor f.free_descriptors, f.free_descriptors == 0)
      ∷ []

  -- sbrk(n) ("Code: sbrk")
  abbrev pub of_sbrk : List (Reason × Bool)
  of_sbrk =
      (BadSize, is_bad_size (size_after f.size (c_int c.a0)))
      ∷ (NoFrames f.free, short)
      ∷ []

  -- open(path, mode) ("I/O and File descriptors")
  abbrev pub of_open : List (Reason × Bool)
  of_open =
      (NoPath c.a0, is_none (text_at f MAXPATH c.a0))
      ∷ (NotNamed, not (is_named f (name_in (text_at f MAXPATH c.a0))))
      ∷ (NotInMode (c_int c.a1), not (opens_in (name_in (text_at f MAXPATH c.a0)) (c_int c.a1)))
      ∷ (NoDescriptor f.free_descriptors, f.free_descriptors == 0)
      ∷ []

  -- write(fd, a, n) ("I/O and File descriptors", "Code: Pipes"): 0 bytes are written even if nobody reads. (Nothing that is open on a file may be written by)
  abbrev pub of_write : List (Reason × Bool)
  of_write =
      (NotOpen (c_int c.a0), is_none (f.opened (c_int c.a0)))
      ∷ (NotForWriting (c_int c.a0), not (may_be_written (f.opened (c_int c.a0))))
      ∷ (BelowZero (c_int c.a2), is_below_zero (c_int c.a2))
      ∷ (NotReadable c.a1 (at_least_zero (c_int c.a2)), not (f.reads c.a1 (at_least_zero (c_int c.a2))))
      ∷ (NotForWriting (c_int c.a0), not (at_least_zero (c_int c.a2) == 0) && is_on_file (f.opened (c_int c.a0)))
      ∷ (NoReader, not (at_least_zero (c_int c.a2) == 0) && has_no_reader (f.opened (c_int c.a0)))
      ∷ []

  -- close(fd) ("I/O and File descriptors")
  abbrev pub of_close : List (Reason × Bool)
  of_close = (NotOpen (c_int c.a0), is_none (f.opened (c_int c.a0))) ∷ []

  -- sbrklazy(n) ("Page tables": lazy allocation)
  abbrev pub of_sbrklazy : List (Reason × Bool)
  of_sbrklazy =
      (BelowZero (c_int c.a0), is_below_zero (c_int c.a0))
      ∷ (BadSize, is_bad_size (size_after f.size (c_int c.a0)))
      ∷ []

-- ---- the test that a machine doesn't show

-- nothing is there, or it has no frame left
abbrev pub has_no_frame : Option View → Bool
has_no_frame None = true
has_no_frame (Some v) = v.free == 0

-- the memory with so many bytes
abbrev pub resized : Image → ℕ → Image
resized image size = if nat_lt size image.size then shrunk image size else grown image size

-- growth to so many bytes costs more frames than are free
abbrev pub costs_too_much : View → ℕ → Bool
costs_too_much v size = nat_le v.image.size size && nat_lt v.free (price (resized v.image size) - price v.image)

-- what is loaded costs more frames than are free, or nothing is
abbrev pub cannot_hold : View → Option Loaded → Bool
cannot_hold v None = true
cannot_hold v (Some l) = nat_lt v.free (price l.image)

-- the program can't be loaded with these texts, or costs too much; or one of both isn't there
abbrev pub cannot_load : View → Option ProgramFile → Option (List (List ℕ)) → Bool
cannot_load v (Some program) (Some texts) = cannot_hold v (result_of (loaded program.bytes texts))
cannot_load v (Some program) None = true
cannot_load v None texts = true

-- What a call takes isn't there: of fork a slot, a pid, or the frames of a child; of wait and read the frames of their buffer's absent pages; of pipe
-- these, and one more; of exec a file and texts that can be loaded, and the frames for them; of sbrk those of its growth. Any other call takes none
unfoldable pub is_short : Row → Call → View → Bool
is_short Fork c v = nat_le NPROC (length v.pids) || nat_lt PID_MAX v.next_pid || nat_lt v.free (price v.image + 1)
is_short Wait c v = is_none (touch (pages_at c.a0 (if c.a0 == 0 then 0 else 4)) v)
is_short Pipe_row c v = has_no_frame (touch (pages_at c.a0 8) v)
is_short Read c v = is_none (touch (pages_at c.a1 (at_least_zero (c_int c.a2))) v)
is_short Exec c v = cannot_load v (program_named (name_in (buffers.text_at MAXPATH v.image c.a0)) v.programs) (buffers.texts_at MAXARG ARG_BYTES v.image c.a1)
is_short Sbrk c v = costs_too_much v (at_least_zero (size_after v.image.size (c_int c.a0)))
is_short _ c v = false

-- ---- the reason of a call

-- the tests of a row; exit, getpid, sleep and uptime are never refused
unfoldable pub tests : Row → Call → Facts → (short : Bool) → List (Reason × Bool)
tests Fork c f short = of_fork c f short
tests Wait c f short = of_wait c f short
tests Pipe_row c f short = of_pipe c f short
tests Read c f short = of_read c f short
tests Kill c f short = of_kill c f short
tests Exec c f short = of_exec c f short
tests Dup c f short = of_dup c f short
tests Sbrk c f short = of_sbrk c f short
tests Open c f short = of_open c f short
tests Write c f short = of_write c f short
tests Close c f short = of_close c f short
tests Sbrklazy c f short = of_sbrklazy c f short
tests _ c f short = []

-- the reason of a call by facts of its caller; a number that no row has is refused
abbrev pub reason_by : Option Row → Call → Facts → (short : Row → Bool) → Option Reason
reason_by None c f short = Some NoCall
reason_by (Some r) c f short = first (tests r c f (short r))

-- why the call is refused in this view, if it is
unfoldable pub reason_of : Call → View → Option Reason
reason_of c v = reason_by (row_of c.number) c (facts_of v) (λ r. is_short r c v)

-- ---- the reason of an answer

-- Why a call has answered so, as it is told by facts: nothing if it wasn't -1. Else the first test that holds; and if none does that a machine shows,
-- it was the one that it doesn't show
unfoldable pub reason_told : Call → Facts → (value : ℤ) → Option Reason
reason_told c f value = if int_eq value minus_one then reason_by (row_of c.number) c f (λ r. true) else None
