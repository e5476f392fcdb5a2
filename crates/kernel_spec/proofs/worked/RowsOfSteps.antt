-- Worked cases of what a step begins with, of whether a process that waits could go on, and of what others see of a step.
use Rattle.kernel_spec.proofs.Prelude.{[], ℕ, ◌+◌, ◌-◌, ◌>>=◌, ◌>>◌, ◌^◌, ◌or◌, ◌when◌, ◌∷◌, ◌≡◌, after_instruction, Blocked, Bool, Call, call_begun, Called, Child, close, codes, cond, Console}
use Rattle.kernel_spec.proofs.Prelude.{count_below, Descriptor, Descriptors, Ecall, empty_console, Exited, false, Fault, Faulted, fresh, gone_with, Image, kill, List, LoadPageFault, map}
use Rattle.kernel_spec.proofs.Prelude.{meets_on_file, meets_on_pipe, nat_eq, negsuc, new_pipe, Next, None, Option, own, perform, PIPE_BYTES, pos, put, Reading, ready, refl, replicate, row, row_of}
use Rattle.kernel_spec.proofs.Prelude.{Running, seen, seen_table, Shown_file, Shown_pipe, Shown_terminal, sleep, Some, State, Status, Stepped, true, View, Writing}
use Rattle.kernel_spec.proofs.steps.SeenByParts.{left_at, offset_left, pipe_left}
use Rattle.kernel_spec.proofs.worked.WorkedViews.{call, minus, in_call, ends_of, a0_after, pc_of, call_of}

module _ (image : Image) where
  -- ---- an ECALL begins the call in a7 with a0 to a2, and moves the pc by 4

  -- a7, a0, a1 and a2 hold these; a3 to a6 don't matter. The pc is 40 and the clock 9
  asking : (number a0 a1 a2 : ℕ) → View
  asking number a0 a1 a2 = record (in_call image (call 0 0 0 0)) { call = None; regs = put (put (put (put (put (fresh 40) 13 99) 17 number) 10 a0) 11 a1) 12 a2; clock = 9 }

  begins : call_begun (asking 5 1 2 3) ≡ record { number = pos 5; a0 = 1; a1 = 2; a2 = 3; moved = 0; clock = 9 }
  unfolding asking in_call
  begins = refl

  -- the number is a C int
  begins_low_bits : (call_begun (asking (2 ^ 32 + 11) 1 2 3)).number ≡ pos 11
  unfolding asking in_call
  begins_low_bits = refl

  begins_minus_1 : (call_begun (asking (minus 1) 1 2 3)).number ≡ negsuc 0
  unfolding asking in_call
  begins_minus_1 = refl

  -- getpid in one step; the pc is past the ECALL, and no call is in progress
  asks_pid : (after_instruction (asking 11 0 0 0) Ecall).answer ≡ Called (pos 11) (pos 1)
  unfolding asking in_call perform row row_of ◌>>=◌ ◌or◌
  asks_pid = refl

  asks_pc : pc_of (after_instruction (asking 11 0 0 0) Ecall).next ≡ 44
  unfolding asking in_call pc_of perform row row_of ◌>>=◌ ◌or◌
  asks_pc = refl

  asks_a0 : a0_after (after_instruction (asking 11 7 0 0) Ecall).next ≡ 1
  unfolding asking in_call a0_after perform row row_of ◌>>=◌ ◌or◌
  asks_a0 = refl

  asks_done : call_of (after_instruction (asking 11 0 0 0) Ecall).next ≡ None
  unfolding asking in_call call_of perform row row_of ◌>>=◌ ◌or◌
  asks_done = refl

  -- sleep(2) waits: the pc is past the ECALL, and the call is in progress since clock 9
  sleeps_pc : pc_of (after_instruction (asking 13 2 0 0) Ecall).next ≡ 44
  unfolding asking in_call pc_of perform row row_of sleep ◌>>=◌ ◌>>◌ ◌when◌ ◌or◌
  sleeps_pc = refl

  sleeps_since : call_of (after_instruction (asking 13 2 0 0) Ecall).next ≡ Some (record { number = pos 13; a0 = 2; a1 = 0; a2 = 0; moved = 0; clock = 9 })
  unfolding asking in_call call_of perform row row_of sleep ◌>>=◌ ◌>>◌ ◌when◌ ◌or◌
  sleeps_since = refl

  sleeps_a0 : a0_after (after_instruction (asking 13 2 0 0) Ecall).next ≡ 2
  unfolding asking in_call a0_after perform row row_of sleep ◌>>=◌ ◌>>◌ ◌when◌ ◌or◌
  sleeps_a0 = refl

  -- an instruction that is done, and one that faults
  steps : (after_instruction (asking 0 0 0 0) (Next (fresh 60) None)).answer ≡ Stepped
  unfolding asking in_call
  steps = refl

  steps_pc : pc_of (after_instruction (asking 0 0 0 0) (Next (fresh 60) None)).next ≡ 60
  unfolding asking in_call pc_of
  steps_pc = refl

  faults : (after_instruction (asking 0 0 0 0) (Fault LoadPageFault)).answer ≡ Faulted LoadPageFault
  unfolding asking in_call
  faults = refl

  faults_is_gone : (after_instruction (asking 0 0 0 0) (Fault LoadPageFault)).next ≡ None
  unfolding asking in_call
  faults_is_gone = refl

  statuses : map gone_with (Stepped ∷ Called (pos 1) (pos 2) ∷ Blocked (pos 3) ∷ Exited (pos 7) ∷ Faulted LoadPageFault ∷ []) ≡ None ∷ None ∷ None ∷ Some (pos 7) ∷ Some (negsuc 0) ∷ []
  statuses = refl

  -- a process that is marked ends, before its call goes on and before its instruction
  marked_in_call : (own (record (in_call image (call 11 0 0 0)) { killed = true })).answer ≡ Exited (negsuc 0)
  unfolding own in_call
  marked_in_call = refl

  marked_at_instruction : (own (record (asking 11 0 0 0) { killed = true })).answer ≡ Exited (negsuc 0)
  unfolding own asking in_call
  marked_at_instruction = refl

  -- ---- what a step leaves to all

  -- exit closes both ends, and the last close of an end is told too
  exit_closes : (own (record (in_call image (call 2 0 0 0)) { descriptors = ends_of (record { bytes = []; readers = 2; writers = 1 }) })).left.descriptors 0
      ≡ Some (record { file = 0; read = true; write = false; shown = Shown_pipe 0 Reading (record { bytes = []; readers = 1; writers = 0 }) })
  unfolding own in_call count_below perform row row_of ◌>>=◌ ◌or◌
  exit_closes = refl

  close_is_told : (own (record (in_call image (call 21 1 0 0)) { descriptors = ends_of new_pipe })).left.descriptors 1
      ≡ Some (record { file = 1; read = false; write = true; shown = Shown_pipe 0 Writing (record { bytes = []; readers = 1; writers = 0 }) })
  unfolding own in_call new_pipe perform row row_of close ◌>>=◌ ◌>>◌ ◌when◌ ◌or◌
  close_is_told = refl

  -- ---- whether a process that waits could go on

  is_ready : Call → Descriptors → (ℕ → Option Child) → Console → Bool
  is_ready c t children console = ready (record (in_call image c) { descriptors = t; children = children; console = console; pids = 1 ∷ 2 ∷ [] })

  abbrev no_table : Descriptors
  no_table = λ d. None

  abbrev no_child : ℕ → Option Child
  no_child = λ q. None

  abbrev child_2 : Child → ℕ → Option Child
  child_2 c = λ q. cond (nat_eq q 2) (Some c) None

  wait_ready : is_ready (call 3 0 0 0) no_table (child_2 Running) empty_console ∷ is_ready (call 3 0 0 0) no_table
      (child_2 (Status (pos 0))) empty_console ∷ is_ready (call 3 0 0 0) no_table no_child empty_console ∷ [] ≡ false ∷ true ∷ true ∷ []
  unfolding ready row_of in_call is_ready
  wait_ready = refl

  reads : List ℕ → (readers writers : ℕ) → Bool
  reads bytes readers writers = is_ready (call 5 0 0 1) (ends_of (record { bytes = bytes; readers = readers; writers = writers })) no_child empty_console

  writes : List ℕ → (readers writers : ℕ) → Bool
  writes bytes readers writers = is_ready (call 16 1 0 1) (ends_of (record { bytes = bytes; readers = readers; writers = writers })) no_child empty_console

  -- a read of a pipe: nothing yet, a byte, nobody left to write
  read_ready : reads [] 1 1 ∷ reads (0 ∷ []) 1 1 ∷ reads [] 1 0 ∷ [] ≡ false ∷ true ∷ true ∷ []
  unfolding ready row_of in_call is_ready reads
  read_ready = refl

  -- a write to one: it is full, there is room for a byte, nobody left to read
  write_ready : writes (replicate PIPE_BYTES 0) 1 1 ∷ writes (replicate (PIPE_BYTES - 1) 0) 1 1 ∷ writes (replicate PIPE_BYTES 0) 0 1 ∷ [] ≡ false ∷ true ∷ true ∷ []
  unfolding ready row_of in_call is_ready writes
  write_ready = refl

  at_console : ℕ → Console → Bool
  at_console number console = is_ready (call number 0 0 1) (λ d. cond (nat_eq d 0) (Some (record { file = 0; read = true; write = true; shown = Shown_terminal })) None) no_child console

  -- a read of the console: no byte, a byte that isn't committed yet, one that is
  console_read_ready : at_console 5 empty_console ∷ at_console 5 (record empty_console { uncommitted = 97 ∷ [] }) ∷ at_console 5
      (record empty_console { committed = 4 ∷ [] }) ∷ [] ≡ false ∷ false ∷ true ∷ []
  unfolding ready row_of in_call is_ready at_console
  console_read_ready = refl

  -- a write to it: 32 bytes to be sent, and 31
  console_write_ready : at_console 16 (record empty_console { to_send = replicate 32 0 }) ∷ at_console 16 (record empty_console { to_send = replicate 31 0 }) ∷ [] ≡ false ∷ true ∷ []
  unfolding ready row_of in_call is_ready at_console
  console_write_ready = refl

  -- a mark, and no call in progress
  marked_ready : ready (record (in_call image (call 13 5 0 0)) { killed = true }) ≡ true
  unfolding ready in_call
  marked_ready = refl

  ready_without_call : ready (record (in_call image (call 13 5 0 0)) { call = None }) ≡ true
  unfolding ready in_call
  ready_without_call = refl

  -- ---- what another process sees

  -- a process of this pid that sees these children
  watcher : ℕ → (ℕ → Option Child) → View
  watcher p children = record (in_call image (call 3 0 0 0)) { pid = p; children = children; pids = 1 ∷ 2 ∷ 3 ∷ 4 ∷ [] }

  -- process 2, which has the child 3, exits with 7
  leaver : View
  leaver = record (in_call image (call 2 7 0 0)) { pid = 2; pids = 1 ∷ 2 ∷ 3 ∷ 4 ∷ []; children = λ q. cond (nat_eq q 3) (Some Running) None }

  module _ (s : State) where
    after_exit : (p : ℕ) → (ℕ → Option Child) → ℕ → Option Child
    after_exit p children q = (seen s leaver (own leaver) (watcher p children)).children q

    -- its parent, which is 4, sees the status, and nothing of the grandchild
    parent_sees : after_exit 4 (child_2 Running) 2 ∷ after_exit 4 (child_2 Running) 3 ∷ [] ≡ Some (Status (pos 7)) ∷ None ∷ []
    unfolding seen own in_call watcher leaver after_exit perform row row_of ◌>>=◌ ◌>>◌ ◌when◌ ◌or◌
    parent_sees = refl

    -- process 1, whose child it isn't, has the child 3 now
    first_sees : after_exit 1 no_child 2 ∷ after_exit 1 no_child 3 ∷ [] ≡ None ∷ Some Running ∷ []
    unfolding seen own in_call watcher leaver after_exit perform row row_of ◌>>=◌ ◌>>◌ ◌when◌ ◌or◌
    first_sees = refl

    -- process 1, whose child it is, sees both
    first_parent_sees : after_exit 1 (child_2 Running) 2 ∷ after_exit 1 (child_2 Running) 3 ∷ [] ≡ Some (Status (pos 7)) ∷ Some Running ∷ []
    unfolding seen own in_call watcher leaver after_exit perform row row_of ◌>>=◌ ◌>>◌ ◌when◌ ◌or◌
    first_parent_sees = refl

    -- nobody else sees anything of it
    other_sees : after_exit 4 no_child 2 ∷ after_exit 4 no_child 3 ∷ [] ≡ None ∷ None ∷ []
    unfolding seen own in_call watcher leaver after_exit perform row row_of ◌>>=◌ ◌>>◌ ◌when◌ ◌or◌
    other_sees = refl

    -- process 1 kills 2: 2 is marked, and 3 isn't; who was marked is marked still
    marks : (p : ℕ) → Bool → Bool
    marks p before = (seen s (watcher 1 (child_2 Running)) (own (record (watcher 1 (child_2 Running)) { call = Some (call 6 2 0 0) })) (record (watcher p no_child) { killed = before })).killed

    marked_seen : marks 2 false ∷ marks 3 false ∷ marks 3 true ∷ [] ≡ true ∷ false ∷ true ∷ []
    unfolding seen own in_call watcher marks perform row row_of kill ◌>>=◌ ◌>>◌ ◌when◌ ◌or◌
    marked_seen = refl

  -- an offset and a pipe that both are on are those that the step left; others stay
  abbrev on_file : ℕ → Descriptor
  on_file offset = record { file = 0; read = true; write = false; shown = Shown_file 0 offset }

  abbrev on_pipe : List ℕ → Descriptor
  on_pipe bytes = record { file = 0; read = true; write = false; shown = Shown_pipe 0 Reading (record { bytes = bytes; readers = 1; writers = 1 }) }

  -- process 1 steps, and leaves descriptor 3 on a file at 5, and 4 on a pipe with two bytes
  abbrev left : Descriptors
  left = λ d. cond (nat_eq d 3) (Some (on_file 5)) (cond (nat_eq d 4) (Some (on_pipe (codes "xy"))) None)

  module _ (s : State) where
    -- descriptor 0 of process 2, which is on the file at 2, on the empty pipe, or on nothing
    file_then : Option Descriptor
    file_then = seen_table s 1 2 left (λ d. Some (on_file 2)) 0

    pipe_then : Option Descriptor
    pipe_then = seen_table s 1 2 left (λ d. Some (on_pipe [])) 0

    offset_seen : meets_on_file s 1 2 0 ≡ Some 3 → file_then ≡ Some (on_file 5)
    unfolding file_then
    offset_seen met = λ i. Some (on_file (offset_left 2 (left_at left (met i))))

    offset_stays : meets_on_file s 1 2 0 ≡ None → file_then ≡ Some (on_file 2)
    unfolding file_then
    offset_stays met = λ i. Some (on_file (offset_left 2 (left_at left (met i))))

    pipe_seen : meets_on_pipe s 1 2 0 ≡ Some 4 → pipe_then ≡ Some (on_pipe (codes "xy"))
    unfolding pipe_then
    pipe_seen met = λ i. Some (record (on_pipe []) { shown = Shown_pipe 0 Reading (pipe_left (record { bytes = []; readers = 1; writers = 1 }) (left_at left (met i))) })

    pipe_stays : meets_on_pipe s 1 2 0 ≡ None → pipe_then ≡ Some (on_pipe [])
    unfolding pipe_then
    pipe_stays met = λ i. Some (record (on_pipe []) { shown = Shown_pipe 0 Reading (pipe_left (record { bytes = []; readers = 1; writers = 1 }) (left_at left (met i))) })

    unused_stays : seen_table s 1 2 left (λ d. None) 0 ≡ None
    unused_stays = refl
