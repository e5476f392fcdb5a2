-- Worked rows of the call table and of the console, computed from the definitions: a wrong row there fails a lemma here.
-- The views are of a process in a call; what its memory costs, and which of its buffers are there, is given.
use Rattle.kernel_spec.proofs.Prelude.{[], ℕ, ◌&&◌, ◌+◌, ◌-◌, ◌>>=◌, ◌>>◌, ◌^◌, ◌or◌, ◌when◌, ◌||◌, ◌∙◌, ◌∷◌, ◌≡◌, ap, ARG_BYTES, Blocked, Bool, Call, Called, close, codes, cond, Console, count_below}
use Rattle.kernel_spec.proofs.Prelude.{Descriptor, Descriptors, done, dup, empty_console, Err, ExecError, Exited, false, grown, has_absent, Image, image_bytes, Key, kill, least_below, least_zombie}
use Rattle.kernel_spec.proofs.Prelude.{length, line, List, Loaded, loaded, lowest_free, MAXARG, MAXPATH, named, nat_eq, nat_lt, negsuc, new_pipe, no_slashes, NOFILE, None, not, Ok, Option, out, Own}
use Rattle.kernel_spec.proofs.Prelude.{own, pages_at, perform, PIPE_BYTES, pos, price, pulled, read, readable, Reading, ready, refl, replicate, Result, round, row, row_of, Run, Running, sbrk, Send}
use Rattle.kernel_spec.proofs.Prelude.{Sent, Shown_file, Shown_pipe, Shown_terminal, shrunk, SIZE_LIMIT, sleep, Some, Status, Step_of, Stepped, text_at, texts_at, Tick, touch, true, Typed, View, wait}
use Rattle.kernel_spec.proofs.Prelude.{word, writable, write, write_image, Writing}
use Rattle.kernel_spec.proofs.worked.WorkedViews.{pc_of, reg_of, call, minus, in_call, ends_of, a0_after, is_marked, pids_of, free_of, moved_of, at_place, writers_of, image_of, console_of}
use Rattle.kernel_spec.proofs.rows.RowParts.{perform_row, forked, cannot_fork, unless, moving, read_from, write_to, piped_from, reaped, exec_loaded, exec_program, exec_path, perform_parts, fork_parts}
use Rattle.kernel_spec.proofs.rows.RowParts.{running}
use Rattle.kernel_spec.proofs.rows.RowsByParts.{by_parts}

module _ (image : Image) where
  -- ---- numbers and arguments

  getpid : (own (in_call image (call 11 0 0 0))).answer ≡ Called (pos 11) (pos 1)
  unfolding own in_call perform row row_of ◌>>=◌ ◌or◌
  getpid = refl

  getpid_7 : (own (record (in_call image (call 11 0 0 0)) { pid = 7 })).answer ≡ Called (pos 11) (pos 7)
  unfolding own in_call perform row row_of ◌>>=◌ ◌or◌
  getpid_7 = refl

  exit_7 : (own (in_call image (call 2 7 0 0))).answer ≡ Exited (pos 7)
  unfolding own in_call perform row row_of ◌>>=◌ ◌or◌
  exit_7 = refl

  -- numbers that are no call
  call_8 : (own (in_call image (call 8 0 0 0))).answer ≡ Called (pos 8) (negsuc 0)
  unfolding own in_call perform row row_of ◌>>=◌ ◌or◌
  call_8 = refl

  call_99 : (own (in_call image (call 99 0 0 0))).answer ≡ Called (pos 99) (negsuc 0)
  unfolding own in_call perform row row_of ◌>>=◌ ◌or◌
  call_99 = refl

  -- -1 in a register is 2^64 - 1
  minus_one_in_a0 : a0_after (own (in_call image (call 99 0 0 0))).next ≡ 2 ^ 64 - 1
  unfolding own in_call a0_after perform row row_of ◌>>=◌ ◌or◌
  minus_one_in_a0 = refl

  -- read on a descriptor past the last one; close of one that isn't in use
  read_past_last : (own (in_call image (call 5 NOFILE 0 1))).answer ≡ Called (pos 5) (negsuc 0)
  unfolding own in_call perform row row_of read ◌>>=◌ ◌>>◌ ◌when◌ ◌or◌
  read_past_last = refl

  close_free : (own (in_call image (call 21 0 0 0))).answer ≡ Called (pos 21) (negsuc 0)
  unfolding own in_call perform row row_of close ◌>>=◌ ◌>>◌ ◌when◌ ◌or◌
  close_free = refl

  -- ---- the clock, and kill

  sleep_2 : (own (in_call image (call 13 2 0 0))).answer ≡ Blocked (pos 13)
  unfolding own in_call perform row row_of sleep ◌>>=◌ ◌>>◌ ◌when◌ ◌or◌
  sleep_2 = refl

  -- two ticks later
  slept_2 : (own (record (in_call image (call 13 2 0 0)) { clock = 2 })).answer ≡ Called (pos 13) (pos 0)
  unfolding own in_call perform row row_of sleep ◌>>=◌ ◌>>◌ ◌when◌ ◌or◌
  slept_2 = refl

  ready_after : ready (record (in_call image (call 13 2 0 0)) { clock = 2 }) ≡ true
  unfolding ready row_of in_call
  ready_after = refl

  ready_before : ready (record (in_call image (call 13 2 0 0)) { clock = 1 }) ≡ false
  unfolding ready row_of in_call
  ready_before = refl

  -- a size that is above the limit still is refused
  sbrk_from_above : (own (record (in_call image (call 12 (minus 1) 0 0)) { image = record image { size = 2 ^ 38 } })).answer ≡ Called (pos 12) (negsuc 0)
  unfolding own in_call perform row row_of sbrk ◌>>=◌ ◌>>◌ ◌when◌ ◌or◌
  sbrk_from_above = refl

  uptime_2 : (own (record (in_call image (call 14 0 0 0)) { clock = 2 })).answer ≡ Called (pos 14) (pos 2)
  unfolding own in_call perform row row_of ◌>>=◌ ◌or◌
  uptime_2 = refl

  kill_1 : (own (in_call image (call 6 1 0 0))).marked ≡ Some 1
  unfolding own in_call perform row row_of kill ◌>>=◌ ◌>>◌ ◌when◌ ◌or◌
  kill_1 = refl

  kill_0 : (own (in_call image (call 6 0 0 0))).answer ≡ Called (pos 6) (negsuc 0)
  unfolding own in_call perform row row_of kill ◌>>=◌ ◌>>◌ ◌when◌ ◌or◌
  kill_0 = refl

  kill_99 : (own (in_call image (call 6 99 0 0))).answer ≡ Called (pos 6) (negsuc 0)
  unfolding own in_call perform row row_of kill ◌>>=◌ ◌>>◌ ◌when◌ ◌or◌
  kill_99 = refl

  kill_minus_1 : (own (in_call image (call 6 (minus 1) 0 0))).answer ≡ Called (pos 6) (negsuc 0)
  unfolding own in_call perform row row_of kill ◌>>=◌ ◌>>◌ ◌when◌ ◌or◌
  kill_minus_1 = refl

  -- a process that kills itself is answered still, and is marked
  kill_itself : (own (in_call image (call 6 1 0 0))).answer ≡ Called (pos 6) (pos 0)
  unfolding own in_call perform row row_of kill ◌>>=◌ ◌>>◌ ◌when◌ ◌or◌
  kill_itself = refl

  kill_itself_marks : is_marked (own (in_call image (call 6 1 0 0))).next ≡ true
  unfolding own in_call is_marked perform row row_of kill ◌>>=◌ ◌>>◌ ◌when◌ ◌or◌
  kill_itself_marks = refl

  -- a process that is marked ends
  marked_ends : (own (record (in_call image (call 6 1 0 0)) { killed = true })).answer ≡ Exited (negsuc 0)
  unfolding own in_call
  marked_ends = refl

  -- ---- wait: the zombie of least pid; no child; no zombie

  family : ℕ → View
  unfolding in_call
  family a = record (in_call image (call 3 a 0 0)) {
    pids = 1 ∷ 2 ∷ 3 ∷ 4 ∷ [];
    children = λ q. cond (nat_eq q 2) (Some Running) (cond (nat_eq q 3) (Some (Status (pos 30))) (cond (nat_eq q 4) (Some (Status (pos 40))) None));
  }

  wait_least : (own (family 0)).answer ≡ Called (pos 3) (pos 3)
  unfolding own in_call family perform row row_of wait touch ◌>>=◌ ◌>>◌ ◌when◌ ◌or◌
  wait_least = refl

  slot_is_free : pids_of (own (family 0)).next ≡ 1 ∷ 2 ∷ 4 ∷ []
  unfolding own in_call family pids_of perform row row_of wait touch ◌>>=◌ ◌>>◌ ◌when◌ ◌or◌
  slot_is_free = refl

  -- nothing is written where the address is 0
  wait_writes_nothing : image_of (own (family 0)).next ≡ image
  unfolding own in_call family image_of perform row row_of wait touch write_image ◌>>=◌ ◌>>◌ ◌when◌ ◌or◌
  wait_writes_nothing = refl

  wait_alone : (own (in_call image (call 3 0 0 0))).answer ≡ Called (pos 3) (negsuc 0)
  unfolding own in_call perform row row_of wait touch ◌>>=◌ ◌>>◌ ◌when◌ ◌or◌
  wait_alone = refl

  wait_running : (own (record (family 0) { children = λ q. cond (nat_eq q 2) (Some Running) None })).answer ≡ Blocked (pos 3)
  unfolding own in_call family perform row row_of wait touch ◌>>=◌ ◌>>◌ ◌when◌ ◌or◌
  wait_running = refl

  -- ---- fork and exit, of a process that costs 7 frames

  module _ (priced : price image ≡ 6) where
    exit_frees : (own (in_call image (call 2 7 0 0))).left.free ≡ 16
    unfolding own perform_parts perform_row row_of in_call count_below
    exit_frees = by_parts (λ (o : Own). o.left.free) _ _ refl (ap (λ (n : ℕ). 9 + n + 1 + 0) priced)

    fork_by : (v : View) (b : Bool) → cannot_fork v ≡ b → (fork_parts (call 1 0 0 0) v).answer ≡ cond b (Called (pos 1) (negsuc 0)) (Called (pos 1) (pos v.next_pid))
    fork_by v true e = ap (λ (b : Bool). (unless b (call 1 0 0 0) v (λ _. forked (call 1 0 0 0) v)).answer) e
    fork_by v false e = ap (λ (b : Bool). (unless b (call 1 0 0 0) v (λ _. forked (call 1 0 0 0) v)).answer) e

    fork_13 : (own (record (in_call image (call 1 0 0 0)) { free = 13 })).answer ≡ Called (pos 1) (pos 2)
    unfolding own perform_parts perform_row row_of in_call
    fork_13 = by_parts (λ (o : Own). o.answer) _ _ refl (fork_by (record (in_call image (call 1 0 0 0)) { free = 13 }) false (ap (λ (n : ℕ). nat_lt 13 (n + 1)) priced))

    fork_leaves_6 : free_of (own (record (in_call image (call 1 0 0 0)) { free = 13 })).next ≡ 6
    unfolding own perform_parts perform_row row_of in_call free_of
    fork_leaves_6 = by_parts (λ (o : Own). free_of o.next) _ _ refl (
        ap (λ (b : Bool). free_of (unless b (call 1 0 0 0) (record (in_call image (call 1 0 0 0)) { free = 13 })
        (λ _. forked (call 1 0 0 0) (record (in_call image (call 1 0 0 0)) { free = 13 }))).next) (ap (λ (n : ℕ). nat_lt 13 (n + 1)) priced)
        ∙ ap (λ (n : ℕ). 13 - (n + 1)) priced)

  -- ---- pipes

  -- a byte more than a pipe holds
  abbrev too_many : ℕ
  too_many = PIPE_BYTES + 1

  writer : View
  unfolding in_call
  writer = record (in_call image (call 16 1 0 too_many)) { descriptors = ends_of new_pipe }

  -- a write of so many bytes: all but one are in, and it waits
  module _ (there : readable image 0 too_many ≡ true) where
    blocks : (own writer).answer ≡ Blocked (pos 16)
    unfolding own perform_parts perform_row row_of in_call writer new_pipe
    blocks = by_parts (λ (o : Own). o.answer) _ _ refl
        (ap (λ (b : Bool). (moving (call 16 1 0 too_many) writer b (pos too_many)
        (λ n. write_to (call 16 1 0 too_many) writer n (Shown_pipe 0 Writing new_pipe))).answer) there)

    moves_all_but_one : moved_of (own writer).next ≡ Some PIPE_BYTES
    unfolding own perform_parts perform_row row_of in_call writer new_pipe moved_of
    moves_all_but_one = by_parts (λ (o : Own). moved_of o.next) _ _ refl
        (ap (λ (b : Bool). moved_of (moving (call 16 1 0 too_many) writer b (pos too_many)
        (λ n. write_to (call 16 1 0 too_many) writer n (Shown_pipe 0 Writing new_pipe))).next) there)

    -- nobody reads any more
    broken : (own (record writer { descriptors = ends_of (record { bytes = []; readers = 0; writers = 1 }) })).answer ≡ Called (pos 16) (negsuc 0)
    unfolding own perform_parts perform_row row_of in_call writer
    broken = by_parts (λ (o : Own). o.answer) _ _ refl
        (ap (λ (b : Bool). (moving (call 16 1 0 too_many)
        (record writer { descriptors = ends_of (record { bytes = []; readers = 0; writers = 1 }) }) b (pos too_many)
        (λ n. write_to (call 16 1 0 too_many) (record writer { descriptors = ends_of (record { bytes = []; readers = 0; writers = 1 }) }) n
        (Shown_pipe 0 Writing (record { bytes = []; readers = 0; writers = 1 })))).answer) there)

  -- n 0 is done at once, whatever the buffer

  write_0 : (own (record (in_call image (call 16 1 (minus 1) 0)) { descriptors = ends_of new_pipe })).answer ≡ Called (pos 16) (pos 0)
  unfolding own in_call perform row row_of write ◌>>=◌ ◌>>◌ ◌when◌ ◌or◌
  write_0 = refl

  -- ---- dup and close: counts, frames, and names

  close_one_end : free_of (own (record (in_call image (call 21 0 0 0)) { descriptors = ends_of new_pipe })).next ≡ 9
  unfolding own in_call new_pipe count_below least_below named free_of perform row row_of close ◌>>=◌ ◌>>◌ ◌when◌ ◌or◌
  close_one_end = refl

  close_last_end : free_of (own (record (in_call image (call 21 1 0 0)) { descriptors = ends_of (record { bytes = []; readers = 0; writers = 1 }) })).next ≡ 10
  unfolding own in_call count_below least_below named free_of perform row row_of close ◌>>=◌ ◌>>◌ ◌when◌ ◌or◌
  close_last_end = refl

  dup_lowest : (own (record (in_call image (call 10 1 0 0)) { descriptors = ends_of new_pipe })).answer ≡ Called (pos 10) (pos 2)
  unfolding own in_call least_below perform row row_of dup ◌>>=◌ ◌>>◌ ◌when◌ ◌or◌
  dup_lowest = refl

  dup_counts : writers_of (at_place (own (record (in_call image (call 10 1 0 0)) { descriptors = ends_of new_pipe })).next 0) ≡ 2
  unfolding own in_call least_below named new_pipe writers_of at_place perform row row_of dup ◌>>=◌ ◌>>◌ ◌when◌ ◌or◌
  dup_counts = refl

  -- descriptors 0 and 1 are on the same open file, a read end whose pipe nobody writes: closing one keeps it, under the other's name; closing that one too gives it up, and the pipe's frame is free
  abbrev reading : ℕ → ℕ → ℕ → Descriptor
  reading file pipe readers = record { file = file; read = true; write = false; shown = Shown_pipe pipe Reading (record { bytes = []; readers = readers; writers = 0 }) }

  abbrev twice : Descriptors
  twice = λ d. cond (nat_lt d 2) (Some (reading 0 0 2)) None

  abbrev once : Descriptors
  once = λ d. cond (nat_eq d 1) (Some (reading 1 1 1)) None

  dup_shares : at_place (own (record (in_call image (call 10 1 0 0)) { descriptors = once })).next 0 ≡ Some (reading 0 0 2)
  unfolding own in_call least_below named at_place perform row row_of dup ◌>>=◌ ◌>>◌ ◌when◌ ◌or◌
  dup_shares = refl

  dup_keeps : at_place (own (record (in_call image (call 10 1 0 0)) { descriptors = once })).next 1 ≡ Some (reading 0 0 2)
  unfolding own in_call least_below named at_place perform row row_of dup ◌>>=◌ ◌>>◌ ◌when◌ ◌or◌
  dup_keeps = refl

  close_shared : at_place (own (record (in_call image (call 21 0 0 0)) { descriptors = twice })).next 1 ≡ Some (reading 1 1 1)
  unfolding own in_call count_below least_below named at_place perform row row_of close ◌>>=◌ ◌>>◌ ◌when◌ ◌or◌
  close_shared = refl

  close_shared_frees : free_of (own (record (in_call image (call 21 0 0 0)) { descriptors = twice })).next ≡ 9
  unfolding own in_call count_below least_below named free_of perform row row_of close ◌>>=◌ ◌>>◌ ◌when◌ ◌or◌
  close_shared_frees = refl

  close_other : at_place (own (record (in_call image (call 21 1 0 0)) { descriptors = once })).next 1 ≡ None
  unfolding own in_call count_below least_below named at_place perform row row_of close ◌>>=◌ ◌>>◌ ◌when◌ ◌or◌
  close_other = refl

  close_other_answer : (own (record (in_call image (call 21 1 0 0)) { descriptors = once })).answer ≡ Called (pos 21) (pos 0)
  unfolding own in_call perform row row_of close ◌>>=◌ ◌>>◌ ◌when◌ ◌or◌
  close_other_answer = refl

  close_other_frees : free_of (own (record (in_call image (call 21 1 0 0)) { descriptors = once })).next ≡ 10
  unfolding own in_call count_below least_below named free_of perform row row_of close ◌>>=◌ ◌>>◌ ◌when◌ ◌or◌
  close_other_frees = refl

  -- a pipe that is made
  making : ℕ → Bool → Own
  making free there = unless (not there || nat_eq free 0) (call 4 0 0 0) (record (in_call image (call 4 0 0 0)) { free = free })
      (λ _. piped_from (call 4 0 0 0) (record (in_call image (call 4 0 0 0)) { free = free }) (lowest_free (λ d. None)))

  pipe_made : writable image 0 8 ≡ true → has_absent (pages_at 0 8) image ≡ false → (own (in_call image (call 4 0 0 0))).answer ≡ Called (pos 4) (pos 0)
  unfolding own perform_parts perform_row row_of in_call making least_below
  pipe_made there present = by_parts (λ (o : Own). o.answer) _ _ present (ap (λ (b : Bool). (making 9 b).answer) there)

  pipe_takes_1 : writable image 0 8 ≡ true → has_absent (pages_at 0 8) image ≡ false → free_of (own (in_call image (call 4 0 0 0))).next ≡ 8
  unfolding own perform_parts perform_row row_of in_call making least_below free_of
  pipe_takes_1 there present = by_parts (λ (o : Own). free_of o.next) _ _ present (ap (λ (b : Bool). free_of (making 9 b).next) there)

  -- ---- reads and writes: which bytes come and go, and where

  -- descriptor 0 is on the program `a`, whose file is `hello`, at offset 2
  file_reader : View
  unfolding in_call
  file_reader = record (in_call image (call 5 0 8192 9)) {
    descriptors = λ d. cond (nat_eq d 0) (Some (record { file = 0; read = true; write = false; shown = Shown_file 0 2 })) None;
    programs = (record { name = codes "a"; bytes = codes "hello" }) ∷ [];
  }

  reading_file : Bool → Own
  reading_file there = moving (call 5 0 8192 9) file_reader there (pos 9) (λ n. read_from (call 5 0 8192 9) file_reader n 0 (Shown_file 0 2))

  module _ (there : writable image 8192 9 ≡ true) (present : has_absent (pages_at 8192 9) image ≡ false) where
    file_rest : image_of (own file_reader).next ≡ write_image image 8192 (codes "llo")
    unfolding own perform_parts perform_row row_of in_call file_reader reading_file image_of
    file_rest = by_parts (λ (o : Own). image_of o.next) _ _ present (ap (λ (b : Bool). image_of (reading_file b).next) there)

    file_answer : (own file_reader).answer ≡ Called (pos 5) (pos 3)
    unfolding own perform_parts perform_row row_of in_call file_reader reading_file
    file_answer = by_parts (λ (o : Own). o.answer) _ _ present (ap (λ (b : Bool). (reading_file b).answer) there)

    file_offset : at_place (own file_reader).next 0 ≡ Some (record { file = 0; read = true; write = false; shown = Shown_file 0 5 })
    unfolding own perform_parts perform_row row_of in_call file_reader reading_file at_place
    file_offset = by_parts (λ (o : Own). at_place o.next 0) _ _ present (ap (λ (b : Bool). at_place (reading_file b).next 0) there)

  -- descriptor 0 is on the console; a call on 40 bytes at 8192 that has moved so many
  terminal_call : ℕ → ℕ → Call
  terminal_call number moved = record (call number 0 8192 40) { moved = moved }

  at_terminal : ℕ → ℕ → List ℕ → View
  at_terminal number moved committed = record (in_call image (terminal_call number moved)) {
    descriptors = λ d. cond (nat_eq d 0) (Some (record { file = 0; read = true; write = true; shown = Shown_terminal })) None;
    console = record empty_console { committed = committed };
  }

  reading_line : ℕ → List ℕ → Bool → Own
  reading_line moved committed there = moving (terminal_call 5 moved) (at_terminal 5 moved committed) there (pos 40)
      (λ n. read_from (terminal_call 5 moved) (at_terminal 5 moved committed) n 0 Shown_terminal)

  writing_line : ℕ → Bool → Own
  writing_line moved there = moving (terminal_call 16 moved) (at_terminal 16 moved []) there (pos 40) (λ n. write_to (terminal_call 16 moved) (at_terminal 16 moved []) n Shown_terminal)

  -- a read that has 2 bytes goes on behind them; its line's end makes 4. Without an end it waits, with 3
  module _ (there : writable image 8192 40 ≡ true) (present : has_absent (pages_at 8192 40) image ≡ false) where
    line_rest : image_of (own (at_terminal 5 2 (codes "c\n"))).next ≡ write_image image 8194 (codes "c\n")
    unfolding own perform_parts perform_row row_of in_call terminal_call at_terminal reading_line image_of
    line_rest = by_parts (λ (o : Own). image_of o.next) _ _ present (ap (λ (b : Bool). image_of (reading_line 2 (codes "c\n") b).next) there)

    line_answer : (own (at_terminal 5 2 (codes "c\n"))).answer ≡ Called (pos 5) (pos 4)
    unfolding own perform_parts perform_row row_of in_call terminal_call at_terminal reading_line
    line_answer = by_parts (λ (o : Own). o.answer) _ _ present (ap (λ (b : Bool). (reading_line 2 (codes "c\n") b).answer) there)

    line_waits : (own (at_terminal 5 2 (codes "c"))).answer ≡ Blocked (pos 5)
    unfolding own perform_parts perform_row row_of in_call terminal_call at_terminal reading_line
    line_waits = by_parts (λ (o : Own). o.answer) _ _ present (ap (λ (b : Bool). (reading_line 2 (codes "c") b).answer) there)

    line_moved : moved_of (own (at_terminal 5 2 (codes "c"))).next ≡ Some 3
    unfolding own perform_parts perform_row row_of in_call terminal_call at_terminal reading_line moved_of
    line_moved = by_parts (λ (o : Own). moved_of o.next) _ _ present (ap (λ (b : Bool). moved_of (reading_line 2 (codes "c") b).next) there)

    -- with room for one byte more it takes one of two, and is over
    line_room : image_of (own (at_terminal 5 39 (codes "cd"))).next ≡ write_image image 8231 (codes "c")
    unfolding own perform_parts perform_row row_of in_call terminal_call at_terminal reading_line image_of
    line_room = by_parts (λ (o : Own). image_of o.next) _ _ present (ap (λ (b : Bool). image_of (reading_line 39 (codes "cd") b).next) there)

    -- byte 4, where nothing is read before it, is taken, and ends the read with 0
    line_end : (own (at_terminal 5 0 (4 ∷ []))).answer ≡ Called (pos 5) (pos 0)
    unfolding own perform_parts perform_row row_of in_call terminal_call at_terminal reading_line
    line_end = by_parts (λ (o : Own). o.answer) _ _ present (ap (λ (b : Bool). (reading_line 0 (4 ∷ []) b).answer) there)

  -- a write of 40 bytes: bytes 0 to 31 go first, and it waits; where they are sent, bytes 32 to 39 go, and it is done
  module _ (there : readable image 8192 40 ≡ true) where
    sends_32 : (console_of (own (at_terminal 16 0 [])).next).to_send ≡ image_bytes image 8192 32
    unfolding own perform_parts perform_row row_of in_call terminal_call at_terminal writing_line console_of
    sends_32 = by_parts (λ (o : Own). (console_of o.next).to_send) _ _ refl (ap (λ (b : Bool). (console_of (writing_line 0 b).next).to_send) there)

    waits_at_32 : (own (at_terminal 16 0 [])).answer ≡ Blocked (pos 16)
    unfolding own perform_parts perform_row row_of in_call terminal_call at_terminal writing_line
    waits_at_32 = by_parts (λ (o : Own). o.answer) _ _ refl (ap (λ (b : Bool). (writing_line 0 b).answer) there)

    sends_8 : (console_of (own (at_terminal 16 32 [])).next).to_send ≡ image_bytes image 8224 8
    unfolding own perform_parts perform_row row_of in_call terminal_call at_terminal writing_line console_of
    sends_8 = by_parts (λ (o : Own). (console_of o.next).to_send) _ _ refl (ap (λ (b : Bool). (console_of (writing_line 32 b).next).to_send) there)

    wrote_40 : (own (at_terminal 16 32 [])).answer ≡ Called (pos 16) (pos 40)
    unfolding own perform_parts perform_row row_of in_call terminal_call at_terminal writing_line
    wrote_40 = by_parts (λ (o : Own). o.answer) _ _ refl (ap (λ (b : Bool). (writing_line 32 b).answer) there)

  -- ---- reads of a pipe: what is there; nothing yet; nothing any more

  reader : List ℕ → ℕ → View
  reader bytes writers = record (in_call image (call 5 0 8192 10)) { descriptors = ends_of (record { bytes = bytes; readers = 1; writers = writers }) }

  reading_pipe : List ℕ → ℕ → Bool → Own
  reading_pipe bytes writers there = moving (call 5 0 8192 10) (reader bytes writers) there (pos 10)
      (λ n. read_from (call 5 0 8192 10) (reader bytes writers) n 0 (Shown_pipe 0 Reading (record { bytes = bytes; readers = 1; writers = writers })))

  module _ (there : writable image 8192 10 ≡ true) (present : has_absent (pages_at 8192 10) image ≡ false) where
    pipe_bytes : image_of (own (reader (codes "xy") 1)).next ≡ write_image image 8192 (codes "xy")
    unfolding own perform_parts perform_row row_of in_call reader reading_pipe image_of
    pipe_bytes = by_parts (λ (o : Own). image_of o.next) _ _ present (ap (λ (b : Bool). image_of (reading_pipe (codes "xy") 1 b).next) there)

    pipe_answer : (own (reader (codes "xy") 1)).answer ≡ Called (pos 5) (pos 2)
    unfolding own perform_parts perform_row row_of in_call reader reading_pipe
    pipe_answer = by_parts (λ (o : Own). o.answer) _ _ present (ap (λ (b : Bool). (reading_pipe (codes "xy") 1 b).answer) there)

    pipe_left : at_place (own (reader (codes "xy") 1)).next 0 ≡ Some (record { file = 0; read = true; write = false; shown = Shown_pipe 0 Reading new_pipe })
    unfolding own perform_parts perform_row row_of in_call reader reading_pipe at_place new_pipe
    pipe_left = by_parts (λ (o : Own). at_place o.next 0) _ _ present (ap (λ (b : Bool). at_place (reading_pipe (codes "xy") 1 b).next 0) there)

    pipe_waits : (own (reader [] 1)).answer ≡ Blocked (pos 5)
    unfolding own perform_parts perform_row row_of in_call reader reading_pipe
    pipe_waits = by_parts (λ (o : Own). o.answer) _ _ present (ap (λ (b : Bool). (reading_pipe [] 1 b).answer) there)

    pipe_ends : (own (reader [] 0)).answer ≡ Called (pos 5) (pos 0)
    unfolding own perform_parts perform_row row_of in_call reader reading_pipe
    pipe_ends = by_parts (λ (o : Own). o.answer) _ _ present (ap (λ (b : Bool). (reading_pipe [] 0 b).answer) there)

  -- ---- wait with an address: the status goes there, and the address is tested first

  waiting_at : Bool → Own
  waiting_at there = unless (not (nat_eq 8192 0) && not there) (call 3 8192 0 0) (family 8192) (λ _. reaped (call 3 8192 0 0) (family 8192) (least_zombie (family 8192)))

  wait_tells : writable image 8192 4 ≡ true → has_absent (pages_at 8192 4) image ≡ false → image_of (own (family 8192)).next ≡ write_image image 8192 (30 ∷ 0 ∷ 0 ∷ 0 ∷ [])
  unfolding own perform_parts perform_row row_of in_call family waiting_at image_of
  wait_tells there present = by_parts (λ (o : Own). image_of o.next) _ _ present (ap (λ (b : Bool). image_of (waiting_at b).next) there)

  wait_nowhere : writable image 8192 4 ≡ false → (own (family 8192)).answer ≡ Called (pos 3) (negsuc 0)
  unfolding own in_call family perform row row_of wait touch ◌>>=◌ ◌>>◌ ◌when◌ ◌or◌
  wait_nowhere refusing = rw refusing refl

  abbrev with_a : View → View
  with_a v = record v { programs = (record { name = codes "a"; bytes = codes "hello" }) ∷ [] }

  -- ---- exec of `a`, with no text: what it makes of the file is given

  abbrev executing : View
  executing = with_a (in_call image (call 7 0 64 0))

  module _ (l : Loaded) (path : text_at MAXPATH image 0 ≡ Some (codes "a")) (texts : texts_at MAXARG ARG_BYTES image 64 ≡ Some []) where
    -- what is asked of the step, where `a` is loaded so
    exec_as : {X : Type 0} (asked : Own → X) (r : Result Loaded ExecError) → loaded (codes "hello") [] ≡ r → asked (own executing) ≡ asked (exec_loaded (call 7 0 64 0) executing r)
    unfolding own perform_parts perform_row row_of in_call no_slashes
    exec_as asked r is = by_parts (λ (o : Own). asked o) _ _ refl (
        ap (λ (o : Option (List ℕ)). asked (exec_path (call 7 0 64 0) executing o)) path
        ∙ ap (λ (o : Option (List (List ℕ))). asked (exec_program (call 7 0 64 0) executing o (Some (record { name = codes "a"; bytes = codes "hello" })))) texts
        ∙ ap (λ (o : Result Loaded ExecError). asked (exec_loaded (call 7 0 64 0) executing o)) is)

    exec_bad : (e : ExecError) → loaded (codes "hello") [] ≡ Err e → (own executing).answer ≡ Called (pos 7) (negsuc 0)
    exec_bad e is = exec_as (λ o. o.answer) (Err e) is

    exec_dear : price l.image ≡ 10 → loaded (codes "hello") [] ≡ Ok l → (own executing).answer ≡ Called (pos 7) (negsuc 0)
    unfolding in_call
    exec_dear costs is = exec_as (λ o. o.answer) (Ok l) is ∙ ap (λ (n : ℕ). (unless (nat_lt 9 n) (call 7 0 64 0) executing (λ _. done (call 7 0 64 0) (pos l.argc) (running l executing))).answer) costs

    module _ (costs : price l.image ≡ 8) (is : loaded (codes "hello") [] ≡ Ok l) where
      exec_by : {X : Type 0} (asked : Own → X) → asked (own executing) ≡ asked (done (call 7 0 64 0) (pos l.argc) (running l executing))
      unfolding in_call
      exec_by asked = exec_as asked (Ok l) is ∙ ap (λ (n : ℕ). asked (unless (nat_lt 9 n) (call 7 0 64 0) executing (λ _. done (call 7 0 64 0) (pos l.argc) (running l executing)))) costs

      exec_answer : (own executing).answer ≡ Called (pos 7) (pos l.argc)
      exec_answer = exec_by (λ o. o.answer)

      exec_image : image_of (own executing).next ≡ l.image
      unfolding image_of
      exec_image = exec_by (λ o. image_of o.next)

      exec_frees : price image ≡ 6 → free_of (own executing).next ≡ 7
      unfolding in_call free_of
      exec_frees old = exec_by (λ o. free_of o.next) ∙ ap (λ (n : ℕ). 9 + n - price l.image) old ∙ ap (λ (n : ℕ). 15 - n) costs

      -- registers: the entry, the stack, and where the texts' addresses lie
      exec_pc : pc_of (own executing).next ≡ l.pc
      unfolding in_call pc_of
      exec_pc = exec_by (λ o. pc_of o.next)

      exec_sp : reg_of 2 (own executing).next ≡ l.sp
      unfolding in_call reg_of
      exec_sp = exec_by (λ o. reg_of 2 o.next)

      exec_a1 : reg_of 11 (own executing).next ≡ l.sp
      unfolding in_call reg_of
      exec_a1 = exec_by (λ o. reg_of 11 o.next)

      exec_a0 : reg_of 10 (own executing).next ≡ word (pos l.argc)
      unfolding in_call reg_of
      exec_a0 = exec_by (λ o. reg_of 10 o.next)

    -- exactly as many frames as the new image takes are free
    module _ (costs : price l.image ≡ 9) (is : loaded (codes "hello") [] ≡ Ok l) where
      fits_by : {X : Type 0} (asked : Own → X) → asked (own executing) ≡ asked (done (call 7 0 64 0) (pos l.argc) (running l executing))
      unfolding in_call
      fits_by asked = exec_as asked (Ok l) is ∙ ap (λ (n : ℕ). asked (unless (nat_lt 9 n) (call 7 0 64 0) executing (λ _. done (call 7 0 64 0) (pos l.argc) (running l executing)))) costs

      exec_fits : (own executing).answer ≡ Called (pos 7) (pos l.argc)
      exec_fits = fits_by (λ o. o.answer)

      exec_fits_frees : price image ≡ 6 → free_of (own executing).next ≡ 6
      unfolding in_call free_of
      exec_fits_frees old = fits_by (λ o. free_of o.next) ∙ ap (λ (n : ℕ). 9 + n - price l.image) old ∙ ap (λ (n : ℕ). 15 - n) costs

  -- a path that isn't there, texts that aren't, a name that no program has, and slashes before one
  exec_no_path : text_at MAXPATH image 0 ≡ None → (own executing).answer ≡ Called (pos 7) (negsuc 0)
  unfolding own perform_parts perform_row row_of in_call
  exec_no_path given = by_parts (λ (o : Own). o.answer) _ _ refl (ap (λ (o : Option (List ℕ)). (exec_path (call 7 0 64 0) executing o).answer) given)

  exec_no_texts : text_at MAXPATH image 0 ≡ Some (codes "a") → texts_at MAXARG ARG_BYTES image 64 ≡ None → (own executing).answer ≡ Called (pos 7) (negsuc 0)
  unfolding own perform_parts perform_row row_of in_call no_slashes
  exec_no_texts path texts = by_parts (λ (o : Own). o.answer) _ _ refl (
      ap (λ (o : Option (List ℕ)). (exec_path (call 7 0 64 0) executing o).answer) path
      ∙ ap (λ (o : Option (List (List ℕ))). (exec_program (call 7 0 64 0) executing o (Some (record { name = codes "a"; bytes = codes "hello" }))).answer) texts)

  exec_unknown : text_at MAXPATH image 0 ≡ Some (codes "c") → texts_at MAXARG ARG_BYTES image 64 ≡ Some [] → (own executing).answer ≡ Called (pos 7) (negsuc 0)
  unfolding own perform_parts perform_row row_of in_call no_slashes
  exec_unknown path texts = by_parts (λ (o : Own). o.answer) _ _ refl (
      ap (λ (o : Option (List ℕ)). (exec_path (call 7 0 64 0) executing o).answer) path
      ∙ ap (λ (o : Option (List (List ℕ))). (exec_program (call 7 0 64 0) executing o None).answer) texts)

  exec_slashes : text_at MAXPATH image 0 ≡ Some (codes "//a") → texts_at MAXARG ARG_BYTES image 64 ≡ Some [] → own executing ≡ exec_loaded (call 7 0 64 0) executing (loaded (codes "hello") [])
  unfolding own perform_parts perform_row row_of in_call no_slashes
  exec_slashes path texts = by_parts (λ (o : Own). o) _ _ refl (
      ap (λ (o : Option (List ℕ)). exec_path (call 7 0 64 0) executing o) path
      ∙ ap (λ (o : Option (List (List ℕ))). exec_program (call 7 0 64 0) executing o (Some (record { name = codes "a"; bytes = codes "hello" }))) texts)

  -- ---- sbrk from 3 pages: one more, with 9 free frames and with none; one fewer

  abbrev sizing : ℕ → ℕ → View
  sizing n free = record (in_call image (call 12 n 0 0)) { image = record image { size = 12288 }; free = free }

  module _ (old : price (record image { size = 12288 }) ≡ 6) (new : price (grown (record image { size = 12288 }) 16384) ≡ 7) where
    one_frame : price (grown (record image { size = 12288 }) 16384) - price (record image { size = 12288 }) ≡ 1
    one_frame = ap (λ (n : ℕ). n - price (record image { size = 12288 })) new ∙ ap (λ (n : ℕ). 7 - n) old

    growing : ℕ → ℕ → Own
    growing free n = unless (nat_lt SIZE_LIMIT 16384 || nat_lt free n) (call 12 4096 0 0) (sizing 4096 free)
        (λ _. done (call 12 4096 0 0) (pos 12288) (record (sizing 4096 free) { image = grown (record image { size = 12288 }) 16384; free = free - n }))

    grows : (own (sizing 4096 9)).answer ≡ Called (pos 12) (pos 12288)
    unfolding own perform_parts perform_row row_of in_call growing
    grows = by_parts (λ (o : Own). o.answer) _ _ refl (ap (λ (n : ℕ). (growing 9 n).answer) one_frame)

    grows_by_1 : free_of (own (sizing 4096 9)).next ≡ 8
    unfolding own perform_parts perform_row row_of in_call growing free_of
    grows_by_1 = by_parts (λ (o : Own). free_of o.next) _ _ refl (ap (λ (n : ℕ). free_of (growing 9 n).next) one_frame)

    grows_not : (own (sizing 4096 0)).answer ≡ Called (pos 12) (negsuc 0)
    unfolding own perform_parts perform_row row_of in_call growing
    grows_not = by_parts (λ (o : Own). o.answer) _ _ refl (ap (λ (n : ℕ). (growing 0 n).answer) one_frame)

  shrinks : (own (sizing (minus 4096) 9)).answer ≡ Called (pos 12) (pos 12288)
  unfolding own in_call perform row row_of sbrk ◌>>=◌ ◌>>◌ ◌when◌ ◌or◌
  shrinks = refl

  shrinks_to : image_of (own (sizing (minus 4096) 9)).next ≡ shrunk (record image { size = 12288 }) 8192
  unfolding own in_call image_of perform row row_of sbrk ◌>>=◌ ◌>>◌ ◌when◌ ◌or◌
  shrinks_to = refl

  shrinks_frees : price (record image { size = 12288 }) ≡ 7 → price (shrunk (record image { size = 12288 }) 8192) ≡ 6 → free_of (own (sizing (minus 4096) 9)).next ≡ 10
  unfolding own perform_parts perform_row row_of in_call free_of
  shrinks_frees before after = by_parts (λ (o : Own). free_of o.next) _ _ refl (ap (λ (n : ℕ). 9 + n - price (shrunk (record image { size = 12288 }) 8192)) before ∙ ap (λ (n : ℕ). 16 - n) after)

-- ---- the console: what keys leave and show

-- keys one after another: the console, and all that it showed
typed : Console → List ℕ → Console × List (List ℕ)
typed c [] = (c, [])
typed c (k ∷ ks) = let one = line c k in let rest = typed one.0 ks in (rest.0, one.1 ∷ rest.1)

-- a, delete, b, Enter
shows : (typed empty_console (97 ∷ 127 ∷ 98 ∷ 13 ∷ [])).1 ≡ (97 ∷ []) ∷ (8 ∷ 32 ∷ 8 ∷ []) ∷ (98 ∷ []) ∷ (10 ∷ []) ∷ []
unfolding typed
shows = refl

commits : (typed empty_console (97 ∷ 127 ∷ 98 ∷ 13 ∷ [])).0.committed ≡ 98 ∷ 10 ∷ []
unfolding typed
commits = refl

-- a, b, Ctrl-U
erases : (typed empty_console (97 ∷ 98 ∷ 21 ∷ [])).1 ≡ (97 ∷ []) ∷ (98 ∷ []) ∷ (8 ∷ 32 ∷ 8 ∷ 8 ∷ 32 ∷ 8 ∷ []) ∷ []
unfolding typed
erases = refl

-- 129 keys: the last one shows nothing, and 128 bytes are committed
full : length (typed empty_console (replicate 129 97)).0.committed ≡ 128
unfolding typed
full = refl

-- and the last one shows nothing
full_echo : (line (typed empty_console (replicate 128 97)).0 97).1 ≡ []
unfolding typed
full_echo = refl

-- ---- what a read takes of `b` and Enter, of `a` and Ctrl-D, of Ctrl-D where nothing was read before and where something was

takes_line : pulled true 10 (codes "b\n") ≡ record { taken = codes "b\n"; ended = true; left = [] }
takes_line = refl

leaves_end : pulled true 10 (97 ∷ 4 ∷ []) ≡ record { taken = 97 ∷ []; ended = true; left = 4 ∷ [] }
leaves_end = refl

takes_end : pulled true 10 (4 ∷ []) ≡ record { taken = []; ended = true; left = [] }
takes_end = refl

leaves_end_later : pulled false 10 (4 ∷ []) ≡ record { taken = []; ended = true; left = 4 ∷ [] }
leaves_end_later = refl

-- no line's end yet
takes_all : pulled true 10 (codes "ab") ≡ record { taken = codes "ab"; ended = false; left = [] }
takes_all = refl

-- ---- rounds, and what a run shows

round_2 : round 2 (5 ∷ 6 ∷ []) ≡ Key 5 ∷ Run ∷ Run ∷ Tick ∷ replicate 32 Send
round_2 = refl

round_without_key : round 2 [] ≡ Run ∷ Run ∷ Tick ∷ replicate 32 Send
round_without_key = refl

shown : out ((Key 97, Typed (97 ∷ [])) ∷ (Run, Step_of 1 Stepped) ∷ (Send, Sent (Some 104)) ∷ (Send, Sent None) ∷ []) ≡ 97 ∷ 104 ∷ []
shown = refl
