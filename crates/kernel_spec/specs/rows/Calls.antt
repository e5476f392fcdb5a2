-- The kernel calls, a row each: what one step of a call in progress comes to. In a row, c is the call (its number, its arguments a0, a1 and a2,
-- the bytes moved and the clock at entry), and v the caller's view. How to read one, top down:
--   E when t      the step ends by E where the test t holds
--   x ← o or E    x is what o has; where it has nothing, the step ends by E
-- (`when` and `or` are defined in Lines.) An E is `refused` (-1, and nothing else changes), `waits k v'` (it sleeps, k bytes are moved, the view is v') or `done a v'` (it answers a, the view is v').
-- Numbers of calls are those of xv6's syscall.h, but for 22, which is this project's own; sections are those of the xv6 book. A t is the view once a buffer's absent pages are touched. An argument is a C int where it is read by `c_int`, else 64 bits.
use Rattle.std.specs.Prelude.{ℕ, ◌+◌, ◌-◌, ◌+ℤ◌, Bool, true, false, not, ◌&&◌, ◌||◌, if◌then◌else◌, List, [], ◌∷◌, ◌++◌, length, take, drop, Option, None, Some, ℤ, pos, negsuc, ◌==◌, nat_eq, nat_lt, nat_le, is_some, option_map, filter, find, slice_get, bytes_eq}
use Rattle.std.specs.List.{list_any}
use Rattle.std.specs.Int.{cast_unsigned, w32}
use Rattle.xk_base.specs.declared.limits.TheConstants.{NPROC, PID_MAX, MAXPATH, MAXARG, ARG_BYTES, SIZE_LIMIT}
use Rattle.xk_base.specs.Words.{le_bytes}
use Rattle.xk_base.specs.Bytes.{image_bytes, write_image}
use Rattle.xk_base.specs.Loaded.{loaded}
use Rattle.xk_base.specs.Image.{Image, price}
use Rattle.rv64i_core.specs.Registers.{Registers, put, with_pc}
use Rattle.rv64i_core.specs.Memory.{Store}
use Rattle.addr_space.specs.Absent.{grown_lazily, pages_at}
use Rattle.pipe_core.specs.Pipe.{new_pipe, with_more, without_first}
use Rattle.file_table.specs.declared.open_file.End.TheVariants.{Reading, Writing}
use Rattle.proc_table.specs.declared.process.Call.{Call}
use Rattle.kernel_spec.specs.views.Words.{SP, A0, A1, c_int, word, minus_one, with_value}
use Rattle.kernel_spec.specs.rows.Buffers.{readable, writable, text_at, texts_at, no_slashes, grown, shrunk}
use Rattle.kernel_spec.specs.views.Processes.{Child, Running, has_status, child_status}
use Rattle.kernel_spec.specs.views.Programs.{console_name, program_bytes, program_named, place_of}
use Rattle.kernel_spec.specs.views.State.{ProgramFile}
use Rattle.kernel_spec.specs.views.PipeEnds.{there, fit, has_bytes}
use Rattle.kernel_spec.specs.rows.Terminal.{next_line, without_line, room_for, with_sent}
use Rattle.kernel_spec.specs.steps.Ticks.{ticks_since, has_passed}
use Rattle.kernel_spec.specs.views.View.{View, Descriptor, Shown, Shown_terminal, Shown_file, Shown_pipe, in_use}
use Rattle.kernel_spec.specs.rows.Lines.{◌>>=◌, ◌>>◌, ◌when◌, ◌or◌, natural, result_of}
use Rattle.kernel_spec.specs.rows.Touches.{touch}
use Rattle.kernel_spec.specs.steps.Own.{Own, Answer, Called, Blocked, Exited, left_by, goes_on}
use Rattle.kernel_spec.specs.rows.Tables.{lowest_free, lowest_free_above, with_descriptor, without_descriptor, with_copy, change_pipe, advance, one_more_on, one_less_on, doubled, all_closed, pipes_given_up}

-- ---- what rows ask of a view

-- the child with the least pid among those that are gone
abbrev pub least_zombie : View → Option ℕ
least_zombie v = find (λ pid. has_status (v.children pid)) v.pids

abbrev pub has_child : View → Bool
has_child v = list_any (λ pid. is_some (v.children pid)) v.pids

-- what a name names: the console, or a program's file, from its first byte on
abbrev pub what_is_named : List ℕ → List ProgramFile → Option Shown
what_is_named name programs = if bytes_eq console_name name then Some Shown_terminal else option_map (λ place. Shown_file place 0) (place_of name programs)

-- a program's file can only be read
abbrev pub has_mode : Shown → ℕ → Bool
has_mode Shown_terminal mode = nat_le mode 2
has_mode (Shown_file program offset) mode = mode == 0
has_mode (Shown_pipe name end pipe) mode = false

-- ---- what a row stores into the memory of its process

-- the image with these bytes from this address on
abbrev pub storing : Store → Image → Image
storing s image = write_image image s.address s.bytes

module _ (c : Call) where
  -- wait: the status of a child, if an address was given
  abbrev pub status_stored : Option Child → Store
  status_stored child = record { address = c.a0; bytes = if c.a0 == 0 then [] else le_bytes 4 (cast_unsigned w32 (child_status child)) }

  -- pipe: the numbers of two descriptors
  abbrev pub ends_stored : (reading writing : ℕ) → Store
  ends_stored r w = record { address = c.a0; bytes = le_bytes 4 r ++ le_bytes 4 w }

  -- read: n bytes at most of what its descriptor is on; on the console behind those that it has moved before
  abbrev pub read_stored : View → (n : ℕ) → Shown → Store
  read_stored v n Shown_terminal = record { address = c.a1 + c.moved; bytes = (next_line v.console c.moved (n - c.moved)).taken }
  read_stored v n (Shown_file program offset) = record { address = c.a1; bytes = take n (drop offset (program_bytes (slice_get v.programs program))) }
  read_stored v n (Shown_pipe name end pipe) = record { address = c.a1; bytes = take (there pipe n) pipe.bytes }

-- ---- how a step ends

abbrev pub with_a0 : Registers → ℕ → Registers
with_a0 r value = put r A0 value

-- the answer is in a0, and no call is in progress
abbrev pub answered : ℤ → View → View
answered value v = record v { regs = with_a0 v.regs (word value); call = None }

-- the process is gone: each of its descriptors is closed, and its frames are free, with those of the pipes that nobody names any more
abbrev pub gone : Answer → View → Own
gone answer v =
    let closed = all_closed v.descriptors in
    record {
      answer = answer;
      next = None;
      child = None;
      left = record (left_by v) { descriptors = closed; free = v.free + price v.image + 1 + pipes_given_up closed };
      marked = None;
    }

module _ (c : Call) where
  -- the call is done: the answer is in a0, and no call is in progress
  abbrev pub done : ℤ → View → Own
  done value v = goes_on (Called c.number value) (answered value v)

  -- the process sleeps in the call, which has moved so many bytes
  abbrev pub waits : ℕ → View → Own
  waits moved v = goes_on (Blocked c.number) (record v { call = Some (record c { moved = moved }) })

  -- a write that has moved so many of its n bytes: done once these are all
  abbrev pub done_at : (n moved : ℕ) → View → Own
  done_at n moved v = if nat_le n moved then done (pos n) v else waits moved v

  -- the next k bytes that a write moves, behind those that it has moved
  abbrev pub next_bytes : View → (k : ℕ) → List ℕ
  next_bytes v k = image_bytes v.image (c.a1 + c.moved) k

  module _ (v : View) where
    -- the answer is -1, and nothing else changes
    abbrev pub refused : Own
    refused = done minus_one v

    -- ---- 1 fork() ("Processes and memory"): the child has the same image, registers and open files

    unfoldable pub fork : Own
    fork = do
      refused when nat_le NPROC (length v.pids)  -- no free slot
      refused when nat_lt PID_MAX v.next_pid  -- next pid over 2^31 - 1
      refused when nat_lt v.free (price v.image + 1)  -- price + 1 exceeds free
      let parent = answered (pos v.next_pid) (record v {
        pids = v.pids ++ v.next_pid ∷ [];
        next_pid = v.next_pid + 1;
        free = v.free - (price v.image + 1);
        children = with_value v.children v.next_pid (Some Running);
        descriptors = doubled v.descriptors;
      })
      let newborn : View = record parent { pid = v.next_pid; regs = with_a0 parent.regs 0; children = λ q. None; killed = false; call = None }
      record (goes_on (Called c.number (pos v.next_pid)) parent) { child = Some newborn }

    -- ---- 2 exit(status) ("Code: Wait, exit, and kill")

    abbrev pub exit : Own
    exit = gone (Exited (c_int c.a0)) v

    -- ---- 3 wait(a) ("Code: Wait, exit, and kill")

    unfoldable pub wait : Own
    wait = do
      refused when not (c.a0 == 0) && not (writable v.image c.a0 4)  -- a byte of the buffer isn't there
      refused when not (has_child v)  -- no child
      t ← touch (pages_at c.a0 (if c.a0 == 0 then 0 else 4)) v or refused  -- the buffer's absent pages cost more than is free
      zombie ← least_zombie t or waits 0 t  -- by pid
      done (pos zombie) (record t {
        image = storing (status_stored c (t.children zombie)) t.image;
        pids = filter (λ pid. not (pid == zombie)) t.pids;
        children = with_value t.children zombie None;
      })

    -- ---- 4 pipe(a) ("Pipes", "Code: Pipes")

    unfoldable pub make_pipe : Own
    make_pipe = do
      refused when not (writable v.image c.a0 8)  -- a byte of the buffer isn't there
      r ← lowest_free v.descriptors or refused
      w ← lowest_free_above v.descriptors r or refused  -- fewer than 2 free descriptors
      t ← touch (pages_at c.a0 8) v or refused  -- the buffer's absent pages cost more than is free
      refused when t.free == 0  -- no free frame beside them
      let reading : Descriptor = record { file = r; read = true; write = false; shown = Shown_pipe r Reading new_pipe }
      let writing : Descriptor = record { file = w; read = false; write = true; shown = Shown_pipe r Writing new_pipe }
      done (pos 0) (record t {
        image = storing (ends_stored c r w) t.image;
        descriptors = with_descriptor w writing (with_descriptor r reading t.descriptors);
        free = t.free - 1;
      })

    -- ---- 5 read(fd, a, n) ("I/O and File descriptors", "Code: Pipes", "Code: Console input")

    unfoldable pub read : Own
    read = do
      d ← in_use v (c_int c.a0) or refused
      refused when not d.read  -- its mode forbids it
      n ← natural (c_int c.a2) or refused  -- n below 0
      done (pos 0) v when n == 0
      refused when not (writable v.image c.a1 n)  -- a byte of the buffer isn't there
      t ← touch (pages_at c.a1 n) v or refused  -- its absent pages cost more than is free
      let stored = read_stored c t n d.shown
      let u = record t { image = storing stored t.image }
      elim d.shown [
        | Shown_file program offset ↦ done (pos (length stored.bytes)) (record u { descriptors = advance d.file (length stored.bytes) t.descriptors })
        | Shown_pipe name end pipe ↦ do
          waits 0 t when not (has_bytes pipe)
          done (pos (there pipe n)) (record u { descriptors = change_pipe name (without_first (there pipe n) pipe) t.descriptors })
        | Shown_terminal ↦ do
          let line = next_line t.console c.moved (n - c.moved)
          let k = c.moved + length line.taken
          let after = record u { console = without_line line t.console }
          if line.ended then done (pos k) after else waits k after
      ]

    -- ---- 6 kill(pid) ("Code: Wait, exit, and kill")

    unfoldable pub kill : Own
    kill = do
      pid ← natural (c_int c.a0) or refused
      refused when pid == 0  -- pid below 1
      refused when not (list_any (λ p. pid == p) v.pids)  -- not in use
      record (done (pos 0) (record v { killed = v.killed || (pid == v.pid) })) { marked = Some pid }

    -- ---- 7 exec(path, argv) ("Code: exec")

    unfoldable pub exec : Own
    exec = do
      path ← text_at MAXPATH v.image c.a0 or refused  -- path bad
      texts ← texts_at MAXARG ARG_BYTES v.image c.a1 or refused  -- a pointer or text bad, or too many
      program ← program_named (no_slashes path) v.programs or refused  -- unknown
      l ← result_of (loaded program.bytes texts) or refused  -- an ExecError
      refused when nat_lt v.free (price l.image)  -- its whole price, while the old image is held
      done (pos l.argc) (record v {
        image = l.image;
        regs = with_pc (put (put v.regs SP l.sp) A1 l.sp) l.pc;
        free = v.free + price v.image - price l.image;
      })

    -- ---- 10 dup(fd) ("I/O and File descriptors")

    unfoldable pub dup : Own
    dup = do
      fd ← natural (c_int c.a0) or refused
      d ← v.descriptors fd or refused  -- not in use
      to ← lowest_free v.descriptors or refused  -- no free descriptor
      done (pos to) (record v { descriptors = with_copy to fd (one_more_on d.shown v.descriptors) })

    -- ---- 11 getpid() ("Operating system interfaces")

    abbrev pub getpid : Own
    getpid = done (pos v.pid) v

    -- ---- 12 sbrk(n) ("Code: sbrk"): new pages hold zeros and may be read and written

    unfoldable pub sbrk : Own
    sbrk = do
      size ← natural (pos v.image.size +ℤ c_int c.a0) or refused  -- below 0
      refused when nat_lt SIZE_LIMIT size  -- over 2^38 - 8192
      let image = if nat_lt size v.image.size then shrunk v.image size else grown v.image size
      refused when nat_le v.image.size size && nat_lt v.free (price image - price v.image)  -- the price of the growth exceeds free
      done (pos v.image.size) (record v { image = image; free = v.free + price v.image - price image })

    -- ---- 13 sleep(n) ("Operating system interfaces")

    unfoldable pub sleep : Own
    sleep = do
      waits 0 v when not (has_passed (ticks_since v.clock c.clock) (c_int c.a0))
      done (pos 0) v

    -- ---- 14 uptime()

    abbrev pub uptime : Own
    uptime = done (pos v.clock) v

    -- ---- 15 open(path, mode) ("I/O and File descriptors"): mode 0 reads, 1 writes, 2 does both

    unfoldable pub open_file : Own
    open_file = do
      path ← text_at MAXPATH v.image c.a0 or refused  -- path bad
      shown ← what_is_named (no_slashes path) v.programs or refused  -- no such name
      mode ← natural (c_int c.a1) or refused
      refused when not (has_mode shown mode)  -- mode not allowed
      fd ← lowest_free v.descriptors or refused  -- no free descriptor
      let opened : Descriptor = record { file = fd; read = not (mode == 1); write = not (mode == 0); shown = shown }
      done (pos fd) (record v { descriptors = with_descriptor fd opened v.descriptors })

    -- ---- 16 write(fd, a, n) ("I/O and File descriptors", "Code: Pipes")

    unfoldable pub write : Own
    write = do
      d ← in_use v (c_int c.a0) or refused
      refused when not d.write  -- its mode forbids it
      n ← natural (c_int c.a2) or refused  -- n below 0
      done (pos 0) v when n == 0
      refused when not (readable v.image c.a1 n)  -- a byte of the buffer isn't there
      elim d.shown [
        | Shown_file program offset ↦ refused
        | Shown_pipe name end pipe ↦ do
          refused when pipe.readers == 0
          let k = fit pipe (n - c.moved)
          done_at n (c.moved + k) (record v { descriptors = change_pipe name (with_more (next_bytes v k) pipe) v.descriptors })
        | Shown_terminal ↦ do
          let k = room_for v.console (n - c.moved)
          done_at n (c.moved + k) (record v { console = with_sent (next_bytes v k) v.console })
      ]

    -- ---- 21 close(fd) ("I/O and File descriptors")

    -- a descriptor that is closed is still told as it is after the step
    unfoldable pub close : Own
    close = do
      fd ← natural (c_int c.a0) or refused
      d ← v.descriptors fd or refused  -- not in use
      let closed = one_less_on d.shown v.descriptors
      let after = done (pos 0) (record v { descriptors = without_descriptor fd closed; free = v.free + pipes_given_up closed })
      record after { left = record after.left { descriptors = closed } }

    -- ---- 22 sbrklazy(n) ("Page tables": lazy allocation): the size grows, and the new pages are absent

    unfoldable pub sbrklazy : Own
    sbrklazy = do
      n ← natural (c_int c.a0) or refused  -- n below 0
      refused when nat_lt SIZE_LIMIT (v.image.size + n)  -- over 2^38 - 8192
      done (pos v.image.size) (record v { image = grown_lazily v.image (v.image.size + n) })

-- ---- the table

pub data Row : Type 0 where
  Fork : Row
  Exit : Row
  Wait : Row
  Pipe_row : Row
  Read : Row
  Kill : Row
  Exec : Row
  Dup : Row
  Getpid : Row
  Sbrk : Row
  Sleep : Row
  Uptime : Row
  Open : Row
  Write : Row
  Close : Row
  Sbrklazy : Row

-- the rows by their numbers
abbrev pub table : List (ℕ × Row)
table = (1, Fork) ∷ (2, Exit) ∷ (3, Wait) ∷ (4, Pipe_row) ∷ (5, Read) ∷ (6, Kill) ∷ (7, Exec) ∷ (10, Dup) ∷ (11, Getpid) ∷ (12, Sbrk) ∷ (13, Sleep) ∷ (14, Uptime) ∷ (15, Open) ∷ (16, Write) ∷ (21, Close) ∷ (22, Sbrklazy) ∷ []

unfoldable pub row_of : ℤ → Option Row
row_of (pos n) = option_map (λ e. e.1) (find (λ e. nat_eq e.0 n) table)
row_of (negsuc k) = None

unfoldable pub row : Row → Call → View → Own
row Fork c v = fork c v
row Exit c v = exit c v
row Wait c v = wait c v
row Pipe_row c v = make_pipe c v
row Read c v = read c v
row Kill c v = kill c v
row Exec c v = exec c v
row Dup c v = dup c v
row Getpid c v = getpid c v
row Sbrk c v = sbrk c v
row Sleep c v = sleep c v
row Uptime c v = uptime c v
row Open c v = open_file c v
row Write c v = write c v
row Close c v = close c v
row Sbrklazy c v = sbrklazy c v

-- one step of a call in progress; a number that no row has is refused
unfoldable pub perform : Call → View → Own
perform c v = do
  r ← row_of c.number or refused c v
  row r c v
