-- The rows of the call table in parts: a word for what is left of a row behind each test that has passed, where no page of the call's buffer is absent.
-- The proofs go by them; that a row is what its parts say, once its buffer is touched, is in RowsByParts.
use Rattle.kernel_spec.proofs.Prelude.{[], ℕ, ℤ, ◌&&◌, ◌++◌, ◌+◌, ◌-◌, ◌||◌, ◌∷◌, ◌≡◌, A1, advance, answered, ARG_BYTES, Bool, bytes_eq, c_int, Call, Called, cast_unsigned, change_pipe, child_status}
use Rattle.kernel_spec.proofs.Prelude.{Close, cond, console_name, Descriptor, done, done_at, doubled, drop, Dup, Err, Exec, ExecError, Exit, Exited, false, filter, fit, Fork, Getpid, goes_on, gone}
use Rattle.kernel_spec.proofs.Prelude.{grown, grown_lazily, has_absent, has_bytes, has_child, has_passed, in_use, Kill, le_bytes, least_zombie, length, List, list_any, Loaded, loaded, lowest_free}
use Rattle.kernel_spec.proofs.Prelude.{lowest_free_above, MAXARG, MAXPATH, nat_eq, nat_le, nat_lt, negsuc, new_pipe, next_bytes, no_slashes, None, not, NPROC, Ok, one_less_on, one_more_on, Open}
use Rattle.kernel_spec.proofs.Prelude.{Option, Own, pages_at, PID_MAX, Pipe, Pipe_row, pipes_given_up, pos, price, program_bytes, program_named, ProgramFile, Pulled, pulled, put, Read, readable}
use Rattle.kernel_spec.proofs.Prelude.{Reading, refused, Result, room_for, Row, row_of, Running, Sbrk, Sbrklazy, Shown, Shown_file, Shown_pipe, Shown_terminal, shrunk, SIZE_LIMIT, Sleep, slice_get}
use Rattle.kernel_spec.proofs.Prelude.{Some, SP, suc, take, text_at, texts_at, there, ticks_since, touch, true, Uptime, View, w32, Wait, waits, with_a0, with_copy, with_descriptor, with_more, with_pc}
use Rattle.kernel_spec.proofs.Prelude.{with_value, without_descriptor, without_first, writable, Write, write_image, Writing}

-- ---- pages that come first

-- t is v, once some pages are touched
abbrev pub IsBrought : View → View → Type 0
IsBrought v t = (pages : List ℕ) × (touch pages v ≡ Some t)

-- how many bytes a wait stores
abbrev pub told_bytes : Call → ℕ
told_bytes c = cond (nat_eq c.a0 0) 0 4

-- how many bytes a number asks for
abbrev pub length_of_int : ℤ → ℕ
length_of_int (pos n) = n
length_of_int (negsuc k) = 0

-- the pages that a row touches: those of the buffer into which it stores
abbrev pub buffer_of : Call → Option Row → List ℕ
buffer_of c (Some Wait) = pages_at c.a0 (told_bytes c)
buffer_of c (Some Pipe_row) = pages_at c.a0 8
buffer_of c (Some Read) = pages_at c.a1 (length_of_int (c_int c.a2))
buffer_of c _ = []

-- none of them is absent
abbrev pub IsSettled : Call → View → Type 0
IsSettled c v = has_absent (buffer_of c (row_of c.number)) v.image ≡ false

-- refused where the test holds, else as the row goes on
abbrev pub unless : Bool → Call → View → (Unit {0} → Own) → Own
unless true c v go = refused c v
unless false c v go = go tt

-- ---- fork ("Processes and memory"): the child has the same image, registers and open files

abbrev pub slots_are_full : View → Bool
slots_are_full v = nat_le NPROC (length v.pids)

abbrev pub cannot_fork : View → Bool
cannot_fork v = slots_are_full v || nat_lt PID_MAX v.next_pid || nat_lt v.free (price v.image + 1)

-- the caller, once its child is there
abbrev pub with_child : View → View
with_child v = record v {
  pids = v.pids ++ v.next_pid ∷ [];
  next_pid = v.next_pid + 1;
  free = v.free - (price v.image + 1);
  children = with_value v.children v.next_pid (Some Running);
  descriptors = doubled v.descriptors;
}

-- a child's first view, from its parent's next one
abbrev pub newborn : ℕ → View → View
newborn pid v = record v { pid = pid; regs = with_a0 v.regs 0; children = λ q. None; killed = false; call = None }

abbrev pub forked : Call → View → Own
forked c v =
    let parent = answered (pos v.next_pid) (with_child v) in
    record (goes_on (Called c.number (pos v.next_pid)) parent) { child = Some (newborn v.next_pid parent) }

abbrev pub fork_parts : Call → View → Own
fork_parts c v = unless (cannot_fork v) c v (λ _. forked c v)

-- ---- wait ("Code: Wait, exit, and kill")

-- the status goes to address a, where a isn't 0
abbrev pub told : ℕ → ℤ → View → View
told a status v = cond (nat_eq a 0) v (record v { image = write_image v.image a (le_bytes 4 (cast_unsigned w32 status)) })

abbrev pub without_child : ℕ → View → View
without_child q v = record v { pids = filter (λ p. not (nat_eq p q)) v.pids; children = with_value v.children q None }

abbrev pub reaped : Call → View → Option ℕ → Own
reaped c v (Some q) = done c (pos q) (told c.a0 (child_status (v.children q)) (without_child q v))
reaped c v None = cond (has_child v) (waits c 0 v) (refused c v)

abbrev pub wait_parts : Call → View → Own
wait_parts c v = unless (not (nat_eq c.a0 0) && not (writable v.image c.a0 4)) c v (λ _. reaped c v (least_zombie v))

-- ---- pipe ("Code: Pipes")

-- r is the lowest free descriptor, w the lowest above it
abbrev pub with_pipe : ℕ → ℕ → View → View
with_pipe r w v = record v {
  descriptors = with_descriptor w (record { file = w; read = false; write = true; shown = Shown_pipe r Writing new_pipe })
      (with_descriptor r (record { file = r; read = true; write = false; shown = Shown_pipe r Reading new_pipe }) v.descriptors);
  free = v.free - 1;
}

abbrev pub piped : Call → View → ℕ → Option ℕ → Own
piped c v r None = refused c v
piped c v r (Some w) = done c (pos 0) (record (with_pipe r w v) { image = write_image v.image c.a0 (le_bytes 4 r ++ le_bytes 4 w) })

abbrev pub piped_from : Call → View → Option ℕ → Own
piped_from c v None = refused c v
piped_from c v (Some r) = piped c v r (lowest_free_above v.descriptors r)

abbrev pub pipe_parts : Call → View → Own
pipe_parts c v = unless (not (writable v.image c.a0 8) || nat_eq v.free 0) c v (λ _. piped_from c v (lowest_free v.descriptors))

-- ---- what read and write have in common

-- done at once where there is nothing to move
abbrev pub unless_nothing : Bool → Call → View → (Unit {0} → Own) → Own
unless_nothing true c v go = done c (pos 0) v
unless_nothing false c v go = go tt

-- The tests of read and write, in their order: n below 0 is refused, n 0 is done at once, then all n bytes at the buffer have to be there
abbrev pub moving : Call → View → (is_there : Bool) → (n : ℤ) → (ℕ → Own) → Own
moving c v is_there (negsuc k) go = refused c v
moving c v is_there (pos n) go = unless_nothing (nat_eq n 0) c v (λ _. unless (not is_there) c v (λ _. go n))

-- ---- read

abbrev pub read_file : Call → View → ℕ → List ℕ → Own
read_file c v file bytes =
    done c (pos (length bytes)) (record v { image = write_image v.image c.a1 bytes; descriptors = advance file (length bytes) v.descriptors })

abbrev pub read_pipe : Call → View → ℕ → Pipe → ℕ → Own
read_pipe c v name pipe n =
    cond (not (has_bytes pipe)) (waits c 0 v)
    (let k = there pipe n in
    done c (pos k) (record v { image = write_image v.image c.a1 (take k pipe.bytes); descriptors = change_pipe name (without_first k pipe) v.descriptors }))

abbrev pub read_line : Call → View → Pulled → Own
read_line c v p =
    let moved = c.moved + length p.taken in
    let after = record v { image = write_image v.image (c.a1 + c.moved) p.taken; console = record v.console { committed = p.left } } in
    cond p.ended (done c (pos moved) after) (waits c moved after)

abbrev pub read_from : Call → View → ℕ → ℕ → Shown → Own
read_from c v n file Shown_terminal = read_line c v (pulled (nat_eq c.moved 0) (n - c.moved) v.console.committed)
read_from c v n file (Shown_file program offset) = read_file c v file (take n (drop offset (program_bytes (slice_get v.programs program))))
read_from c v n file (Shown_pipe name end pipe) = read_pipe c v name pipe n

abbrev pub read_on : Call → View → Option Descriptor → Own
read_on c v None = refused c v
read_on c v (Some d) =
    unless (not d.read) c v (λ _.
    moving c v (writable v.image c.a1 (length_of_int (c_int c.a2))) (c_int c.a2) (λ n. read_from c v n d.file d.shown))

abbrev pub read_parts : Call → View → Own
read_parts c v = read_on c v (in_use v (c_int c.a0))

-- ---- write

abbrev pub write_pipe : Call → View → ℕ → Pipe → ℕ → Own
write_pipe c v name pipe n =
    unless (nat_eq pipe.readers 0) c v (λ _.
    let k = fit pipe (n - c.moved) in
    done_at c n (c.moved + k) (record v { descriptors = change_pipe name (with_more (next_bytes c v k) pipe) v.descriptors }))

abbrev pub write_terminal : Call → View → ℕ → Own
write_terminal c v n =
    let k = room_for v.console (n - c.moved) in
    done_at c n (c.moved + k) (record v { console = record v.console { to_send = v.console.to_send ++ next_bytes c v k } })

abbrev pub write_to : Call → View → ℕ → Shown → Own
write_to c v n Shown_terminal = write_terminal c v n
write_to c v n (Shown_file program offset) = refused c v
write_to c v n (Shown_pipe name end pipe) = write_pipe c v name pipe n

abbrev pub write_on : Call → View → Option Descriptor → Own
write_on c v None = refused c v
write_on c v (Some d) =
    unless (not d.write) c v (λ _.
    moving c v (readable v.image c.a1 (length_of_int (c_int c.a2))) (c_int c.a2) (λ n. write_to c v n d.shown))

abbrev pub write_parts : Call → View → Own
write_parts c v = write_on c v (in_use v (c_int c.a0))

-- ---- kill ("Code: Wait, exit, and kill")

abbrev pub killed_by : Call → View → ℕ → Own
killed_by c v pid =
    unless (not (list_any (nat_eq pid) v.pids)) c v (λ _.
    record (done c (pos 0) (record v { killed = v.killed || nat_eq pid v.pid })) { marked = Some pid })

abbrev pub kill_pid : Call → View → ℤ → Own
kill_pid c v (negsuc k) = refused c v
kill_pid c v (pos pid) = unless (nat_eq pid 0) c v (λ _. killed_by c v pid)

abbrev pub kill_parts : Call → View → Own
kill_parts c v = kill_pid c v (c_int c.a0)

-- ---- exec ("Code: exec")

-- the caller runs the new image from its entry
abbrev pub running : Loaded → View → View
running l v = record v {
  image = l.image;
  regs = with_pc (put (put v.regs SP l.sp) A1 l.sp) l.pc;
  free = v.free + price v.image - price l.image;
}

abbrev pub exec_loaded : Call → View → Result Loaded ExecError → Own
exec_loaded c v (Err e) = refused c v
exec_loaded c v (Ok l) = unless (nat_lt v.free (price l.image)) c v (λ _. done c (pos l.argc) (running l v))

abbrev pub exec_program : Call → View → Option (List (List ℕ)) → Option ProgramFile → Own
exec_program c v None program = refused c v
exec_program c v (Some texts) None = refused c v
exec_program c v (Some texts) (Some program) = exec_loaded c v (loaded program.bytes texts)

abbrev pub exec_path : Call → View → Option (List ℕ) → Own
exec_path c v None = refused c v
exec_path c v (Some path) = exec_program c v (texts_at MAXARG ARG_BYTES v.image c.a1) (program_named (no_slashes path) v.programs)

abbrev pub exec_parts : Call → View → Own
exec_parts c v = exec_path c v (text_at MAXPATH v.image c.a0)

-- ---- dup, close

abbrev pub dup_at : Call → View → ℕ → Descriptor → Option ℕ → Own
dup_at c v j d None = refused c v
dup_at c v j d (Some k) = done c (pos k) (record v { descriptors = with_copy k j (one_more_on d.shown v.descriptors) })

abbrev pub dup_on : Call → View → ℕ → Option Descriptor → Own
dup_on c v j None = refused c v
dup_on c v j (Some d) = dup_at c v j d (lowest_free v.descriptors)

abbrev pub dup_number : Call → View → ℤ → Own
dup_number c v (negsuc k) = refused c v
dup_number c v (pos j) = dup_on c v j (v.descriptors j)

abbrev pub dup_parts : Call → View → Own
dup_parts c v = dup_number c v (c_int c.a0)

-- a closed descriptor is still told as it is after the step
abbrev pub close_at : Call → View → ℕ → Descriptor → Own
close_at c v k d =
    let closed = one_less_on d.shown v.descriptors in
    let after = done c (pos 0) (record v { descriptors = without_descriptor k closed; free = v.free + pipes_given_up closed }) in
    record after { left = record after.left { descriptors = closed } }

abbrev pub close_on : Call → View → ℕ → Option Descriptor → Own
close_on c v k None = refused c v
close_on c v k (Some d) = close_at c v k d

abbrev pub close_number : Call → View → ℤ → Own
close_number c v (negsuc k) = refused c v
close_number c v (pos k) = close_on c v k (v.descriptors k)

abbrev pub close_parts : Call → View → Own
close_parts c v = close_number c v (c_int c.a0)

-- ---- sbrk, sleep

abbrev pub grow_to : Call → View → ℕ → Own
grow_to c v size =
    let image = grown v.image size in
    let frames = price image - price v.image in
    unless (nat_lt SIZE_LIMIT size || nat_lt v.free frames) c v (λ _.
    done c (pos v.image.size) (record v { image = image; free = v.free - frames }))

abbrev pub shrink_to : Call → View → ℕ → Own
shrink_to c v size =
    let image = shrunk v.image size in
    done c (pos v.image.size) (record v { image = image; free = v.free + price v.image - price image })

-- the new size is refused where it is below 0 or above the limit, whichever way it goes
abbrev pub sbrk_by : Call → View → ℤ → Own
sbrk_by c v (pos n) = grow_to c v (v.image.size + n)
sbrk_by c v (negsuc k) = unless (nat_le v.image.size k || nat_lt SIZE_LIMIT (v.image.size - suc k)) c v (λ _. shrink_to c v (v.image.size - suc k))

abbrev pub sbrk_parts : Call → View → Own
sbrk_parts c v = sbrk_by c v (c_int c.a0)

-- the size grows, and no page comes
abbrev pub lazy_to : Call → View → ℕ → Own
lazy_to c v size = unless (nat_lt SIZE_LIMIT size) c v (λ _. done c (pos v.image.size) (record v { image = grown_lazily v.image size }))

abbrev pub lazy_by : Call → View → ℤ → Own
lazy_by c v (pos n) = lazy_to c v (v.image.size + n)
lazy_by c v (negsuc k) = refused c v

abbrev pub sbrklazy_parts : Call → View → Own
sbrklazy_parts c v = lazy_by c v (c_int c.a0)

abbrev pub sleep_for : Call → View → ℤ → Own
sleep_for c v z = cond (not (has_passed (ticks_since v.clock c.clock) z)) (waits c 0 v) (done c (pos 0) v)

abbrev pub sleep_parts : Call → View → Own
sleep_parts c v = sleep_for c v (c_int c.a0)

-- ---- open

pub data Named : Type 0 where
  The_console : Named
  A_program : (place : ℕ) → Named
  Nothing : Named

-- the place of the first program with this name
abbrev pub program_place : List ℕ → List ProgramFile → ℕ → Named
program_place name [] k = Nothing
program_place name (p ∷ ps) k = cond (bytes_eq p.name name) (A_program k) (program_place name ps (k + 1))

abbrev pub kind_named : List ℕ → View → Named
kind_named name v = cond (bytes_eq console_name name) The_console (program_place name v.programs 0)

-- mode 0 reads, 1 writes, 2 does both
abbrev pub opened_as : Named → ℤ → Option (Bool × Bool × Shown)
opened_as The_console (pos mode) = cond (nat_lt 2 mode) None (Some (not (nat_eq mode 1), not (nat_eq mode 0), Shown_terminal))
opened_as The_console (negsuc k) = None
opened_as (A_program place) (pos mode) = cond (nat_eq mode 0) (Some (true, false, Shown_file place 0)) None
opened_as (A_program place) (negsuc k) = None
opened_as Nothing mode = None

abbrev pub open_at : Call → View → Option ℕ → Option (Bool × Bool × Shown) → Own
open_at c v None what = refused c v
open_at c v (Some k) None = refused c v
open_at c v (Some k) (Some (read, write, shown)) = done c (pos k) (record v { descriptors = with_descriptor k (record { file = k; read = read; write = write; shown = shown }) v.descriptors })

abbrev pub open_path : Call → View → Option (List ℕ) → Own
open_path c v None = refused c v
open_path c v (Some path) = open_at c v (lowest_free v.descriptors) (opened_as (kind_named (no_slashes path) v) (c_int c.a1))

abbrev pub open_parts : Call → View → Own
open_parts c v = open_path c v (text_at MAXPATH v.image c.a0)

-- ---- the table

unfoldable pub perform_row : Call → View → Option Row → Own
perform_row c v None = refused c v
perform_row c v (Some Fork) = fork_parts c v
perform_row c v (Some Exit) = gone (Exited (c_int c.a0)) v
perform_row c v (Some Wait) = wait_parts c v
perform_row c v (Some Pipe_row) = pipe_parts c v
perform_row c v (Some Read) = read_parts c v
perform_row c v (Some Kill) = kill_parts c v
perform_row c v (Some Exec) = exec_parts c v
perform_row c v (Some Dup) = dup_parts c v
perform_row c v (Some Getpid) = done c (pos v.pid) v
perform_row c v (Some Sbrk) = sbrk_parts c v
perform_row c v (Some Sleep) = sleep_parts c v
perform_row c v (Some Uptime) = done c (pos v.clock) v
perform_row c v (Some Open) = open_parts c v
perform_row c v (Some Write) = write_parts c v
perform_row c v (Some Close) = close_parts c v
perform_row c v (Some Sbrklazy) = sbrklazy_parts c v

-- one step of a call in progress
unfoldable pub perform_parts : Call → View → Own
perform_parts c v = perform_row c v (row_of c.number)
