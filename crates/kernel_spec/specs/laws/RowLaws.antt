-- What each step does to the state: for each kind of step, and each row that does more than change its process, the console and the free frames, which
-- update of the state before is the state after.
-- So a kernel's code is right where it makes these updates; it needs no view.
use Rattle.std.specs.Prelude.{◌≡◌, ◌≢◌, ℕ, ◌+◌, ◌-◌, ◌++◌, ℤ, pos, Bool, false, true, if◌then◌else◌, List, length, take, Option, None, Some, IsSome, nat_eq, nat_le, not, ◌&&◌, ◌<◌, ◌≤◌, drop, slice_get, ◌==◌}
use Rattle.std.specs.FinMap.{FinMap, get, insert, remove, keys}
use Rattle.std.specs.Ordering.{nat_cmp}
use Rattle.xk_base.specs.declared.limits.TheConstants.{NOFILE, PIPE_BYTES, NPROC, PID_MAX, MAXPATH}
use Rattle.xk_base.specs.declared.access.Cause.{Cause}
use Rattle.xk_base.specs.Words.{le_bytes}
use Rattle.xk_base.specs.Bytes.{write_image}
use Rattle.xk_base.specs.Image.{Image, price}
use Rattle.xk_base.specs.Loaded.{Loaded}
use Rattle.rv64i_core.specs.Registers.{Registers}
use Rattle.rv64i_core.specs.Memory.{Store}
use Rattle.rv64i_core.specs.Step.{Next, Ecall, Fault}
use Rattle.rv64i_core.specs.UserImage.{with_store}
use Rattle.pipe_core.specs.Pipe.{Pipe, new_pipe, without_first}
use Rattle.console_core.specs.Lists.{Console, IsWithinLimits}
use Rattle.file_table.specs.declared.open_file.End.{End}
use Rattle.file_table.specs.declared.open_file.End.TheVariants.{Reading, Writing}
use Rattle.file_table.specs.declared.open_file.Target.{Target}
use Rattle.file_table.specs.declared.open_file.Target.TheVariants.{Program as File, Pipe as Pipe_end}
use Rattle.file_table.specs.declared.open_file.OpenFile.{OpenFile}
use Rattle.proc_table.specs.declared.process.Call.{Call}
use Rattle.addr_space.specs.Absent.{brought}
use Rattle.kernel_spec.specs.steps.Instruction.{next_instruction}
use Rattle.kernel_spec.specs.views.Words.{c_int, minus_one}
use Rattle.kernel_spec.specs.rows.Buffers.{readable, writable_now, text_at, no_slashes}
use Rattle.kernel_spec.specs.views.PipeEnds.{there, joined, parted, is_given_up, has_bytes}
use Rattle.kernel_spec.specs.views.Processes.{Live, Zombie}
use Rattle.kernel_spec.specs.views.State.{State}
use Rattle.kernel_spec.specs.views.View.{Descriptor, view_of, show}
use Rattle.kernel_spec.specs.rows.Touches.{has_absent, touch, before_instruction}
use Rattle.kernel_spec.specs.steps.Own.{Own, Answer, Exited, Faulted, gone_with}
use Rattle.kernel_spec.specs.rows.Execs.{Asks}
use Rattle.kernel_spec.specs.rows.Calls.{perform, done, waits, gone, fork, wait, make_pipe, read, kill, exec, dup, open_file, write, close, least_zombie, what_is_named, has_mode}
use Rattle.kernel_spec.specs.steps.Step.{own, call_begun}
use Rattle.kernel_spec.specs.steps.Updates.{set_pipe, set_file, mark, changed_state, own_state, alone_state, piped_state, filed_state, with_named, with_bytes, with_answer, in_call, stepped, started, forked_state, gone_state, waited_state, remove_zombie, settled, waited, kill_state, killer}
use Rattle.kernel_spec.specs.others.Quiet.{pipe_of_target}
use Rattle.kernel_spec.specs.views.WellFormed.{WellFormed}
use Rattle.kernel_spec.specs.rows.Tables.{lowest_free_above}
use Rattle.kernel_spec.specs.views.Programs.{program_bytes}
use Rattle.kernel_spec.specs.steps.Cases.{IsLive, After, IsBetweenCalls, begun_live, begun_state, touched_live, touched_state, FilesLeft, OnPipe, IsBuffer, now_moved, written, NobodyNames, NobodyHas, IsLowestUnused, closed_state, HasTable}

-- ---- what a step begins with

-- an instruction that is done changes the process's registers, and by a store its image
abbrev pub InstructionLaw : Type 0
InstructionLaw =
    (s : State) (p : ℕ) (l : Live) (r : Registers) (st : Option Store)
    → IsLive s p l → IsBetweenCalls l → next_instruction l.regs l.image ≡ Next r st
    → After s p l (own (view_of s p l)) (own_state p (stepped r st l) s)

-- an ECALL: the call is begun, and its row is done in the same step
abbrev pub EcallLaw : Type 0
EcallLaw =
    (s : State) (p : ℕ) (l : Live) → IsLive s p l → IsBetweenCalls l → next_instruction l.regs l.image ≡ Ecall
    → (own (view_of s p l) ≡ perform (call_begun (view_of s p l)) (view_of (begun_state p l s) p (begun_live s p l)))
    × ((o : Own) (t : State) → After (begun_state p l s) p (begun_live s p l) o t → After s p l o t)

-- a call in progress goes on by its row
abbrev pub ResumeLaw : Type 0
ResumeLaw = (s : State) (p : ℕ) (l : Live) (c : Call) → l.killed ≡ false → l.call ≡ Some c → own (view_of s p l) ≡ perform c (view_of s p l)

-- Pages that are touched: the process sees them, and what a step from there on does to the state is what it does from before
abbrev pub TouchLaw : Type 0
TouchLaw =
    (s : State) (p : ℕ) (l : Live) (pages : List ℕ) → IsLive s p l → price (brought pages l.image) ≤ price l.image + s.free
    → (has_absent pages l.image ≡ true → touch pages (view_of s p l) ≡ Some (view_of (touched_state pages p l s) p (touched_live pages l)))
    × ((o : Own) (t : State) → After (touched_state pages p l s) p (touched_live pages l) o t → After s p l o t)

-- a marked process ends with -1, and so does one whose instruction faults, also where the page that it is on is absent and doesn't come
abbrev pub EndLaw : Type 0
EndLaw =
    (s : State) (p : ℕ) (l : Live)
    → (l.killed ≡ true → own (view_of s p l) ≡ gone (Exited minus_one) (view_of s p l))
    × ((cause : Cause) → IsBetweenCalls l → next_instruction l.regs l.image ≡ Fault cause → before_instruction (view_of s p l) ≡ view_of s p l → own (view_of s p l) ≡ gone (Faulted cause) (view_of s p l))

-- ---- rows that change only the process, the console and the free frames: all refusals, getpid, uptime, sleep, sbrk, reads and writes of the console and of nothing, and a wait that waits

abbrev pub AnswerLaw : Type 0
AnswerLaw =
    (s : State) (p : ℕ) (l : Live) (c : Call) (value : ℤ) (image : Image) (console : Console) (free : ℕ) → IsLive s p l
    → After s p l (done c value (record (view_of s p l) { image = image; console = console; free = free })) (alone_state p (with_answer value (record l { image = image })) console free s)

abbrev pub WaitingLaw : Type 0
WaitingLaw =
    (s : State) (p : ℕ) (l : Live) (c : Call) (moved : ℕ) (image : Image) (console : Console) (free : ℕ) → IsLive s p l
    → After s p l (waits c moved (record (view_of s p l) { image = image; console = console; free = free })) (alone_state p (in_call (record c { moved = moved }) (record l { image = image })) console free s)

-- exec, where the program that the process asks for can be loaded, and costs no more than the free frames: the new image and its first registers
abbrev pub ExecLaw : Type 0
ExecLaw =
    (s : State) (p : ℕ) (l : Live) (c : Call) (new : Loaded) → IsLive s p l → Asks s.programs l.image c.a0 c.a1 new → price new.image ≤ s.free
    → After s p l (exec c (view_of s p l)) (alone_state p (with_answer (pos new.argc) (started new l)) s.console (s.free + price l.image - price new.image) s)

-- ---- rows that make, end, wait for or mark a process

abbrev pub ForkLaw : Type 0
ForkLaw =
    (frames : ℕ) (s : State) (p : ℕ) (l : Live) (c : Call) → WellFormed frames s → IsLive s p l
    → length (keys s.processes) < NPROC → s.next_pid ≤ PID_MAX → price l.image + 1 ≤ s.free
    → After s p l (fork c (view_of s p l)) (forked_state p l s)

-- exit, a fault, a kill
abbrev pub GoneLaw : Type 0
GoneLaw =
    (frames : ℕ) (s : State) (p : ℕ) (l : Live) (answer : Answer) (status : ℤ) (files : FinMap nat_cmp OpenFile) → WellFormed frames s → IsLive s p l → gone_with answer ≡ Some status
    → FilesLeft s (gone_state p l status files s)
    → After s p l (gone answer (view_of s p l)) (gone_state p l status files s)

-- wait, where q is the least zombie: its status is told, and its slot is free
abbrev pub ReapLaw : Type 0
ReapLaw =
    (s : State) (p q : ℕ) (l : Live) (c : Call) (status : ℤ) → IsLive s p l → get s.processes q ≡ Some (Zombie (Some p) status)
    → (not (nat_eq c.a0 0) && not (writable_now l.image c.a0 4)) ≡ false → least_zombie (view_of s p l) ≡ Some q
    → After s p l (wait c (view_of s p l)) (waited_state p (waited c q status l) q s)

abbrev pub KillLaw : Type 0
KillLaw =
    (s : State) (p q : ℕ) (l : Live) (c : Call) → IsLive s p l → c_int c.a0 ≡ pos q → 1 ≤ q → IsSome (get s.processes q)
    → After s p l (kill c (view_of s p l)) (kill_state p (killer p q l) q s)

-- ---- rows on an open file

-- read from a pipe: it takes what is there, or waits
abbrev pub PipeReadLaw : Type 0
PipeReadLaw =
    (s : State) (p : ℕ) (l : Live) (c : Call) (d i k n : ℕ) (end : End) (x : Pipe) (on : OnPipe s p l d i k end x)
    → on.read ≡ true → c_int c.a0 ≡ pos d → IsBuffer c (writable_now l.image c.a1) n
    → (has_bytes x ≡ true → After s p l (read c (view_of s p l)) (piped_state p (with_answer (pos (there x n)) (with_bytes c.a1 (take (there x n) x.bytes) l)) i (without_first (there x n) x) s))
    × (has_bytes x ≡ false → After s p l (read c (view_of s p l)) (own_state p (in_call (record c { moved = 0 }) l) s))

-- write to a pipe: as many bytes as fit; it is done when all are in, and it fails when nobody reads any more
abbrev pub PipeWriteLaw : Type 0
PipeWriteLaw =
    (s : State) (p : ℕ) (l : Live) (c : Call) (d i k n : ℕ) (end : End) (x : Pipe) (on : OnPipe s p l d i k end x)
    → on.write ≡ true → c_int c.a0 ≡ pos d → IsBuffer c (readable l.image c.a1) n
    → (nat_eq x.readers 0 ≡ true → After s p l (write c (view_of s p l)) (own_state p (with_answer minus_one l) s))
    × (nat_eq x.readers 0 ≡ false → nat_le n (now_moved c x n) ≡ true → After s p l (write c (view_of s p l)) (piped_state p (with_answer (pos n) l) i (written c l x n) s))
    × (nat_eq x.readers 0 ≡ false → nat_le n (now_moved c x n) ≡ false → After s p l (write c (view_of s p l)) (piped_state p (in_call (record c { moved = now_moved c x n }) l) i (written c l x n) s))

-- read from a program's file: the bytes are taken, and the offset moves on
abbrev pub FileReadLaw : Type 0
FileReadLaw =
    (s : State) (p : ℕ) (l : Live) (c : Call) (d f program offset n : ℕ) (w : Bool) → IsLive s p l → c_int c.a0 ≡ pos d → d < NOFILE → get l.descriptors d ≡ Some f
    → get s.files f ≡ Some (record { read = true; write = w; target = File program offset }) → IsBuffer c (writable_now l.image c.a1) n
    → let bytes = take n (drop offset (program_bytes (slice_get s.programs program))) in
    After s p l (read c (view_of s p l))
    (filed_state p (with_answer (pos (length bytes)) (with_bytes c.a1 bytes l)) f (record { read = true; write = w; target = File program (offset + length bytes) }) s)

-- open: the lowest free descriptor names a new open file, which is the console or a program's
abbrev pub OpenLaw : Type 0
OpenLaw =
    (s : State) (p : ℕ) (l : Live) (c : Call) (k f mode : ℕ) (path : List ℕ) (target : Target) → IsLive s p l
    → text_at MAXPATH l.image c.a0 ≡ Some path → what_is_named (no_slashes path) s.programs ≡ Some (show s target) → pipe_of_target target ≡ None
    → c_int c.a1 ≡ pos mode → has_mode (show s target) mode ≡ true → IsLowestUnused s p l k → NobodyNames s f
    → After s p l (open_file c (view_of s p l))
    (filed_state p (with_answer (pos k) (with_named k f l)) f (record { read = not (mode == 1); write = not (mode == 0); target = target }) s)

-- pipe: the lowest free descriptor and the next name the two ends of a new pipe
abbrev pub PipeLaw : Type 0
PipeLaw =
    (s : State) (p : ℕ) (l : Live) (c : Call) (r w f g i : ℕ) → IsLive s p l → writable_now l.image c.a0 8 ≡ true → 0 < s.free
    → IsLowestUnused s p l r → lowest_free_above (view_of s p l).descriptors r ≡ Some w → w < NOFILE → get l.descriptors w ≡ None → r ≢ w → f ≢ g
    → NobodyNames s f → NobodyNames s g → NobodyHas s i
    → After s p l (make_pipe c (view_of s p l))
    (changed_state p (with_answer (pos 0) (with_bytes c.a0 (le_bytes 4 r ++ le_bytes 4 w) (with_named w g (with_named r f l))))
    (insert (insert s.files f (record { read = true; write = false; target = Pipe_end i Reading })) g (record { read = false; write = true; target = Pipe_end i Writing }))
    (insert s.pipes i new_pipe) s.console (s.free - 1) s)

-- dup: the lowest free descriptor names what descriptor j names, which is the console or a program's file
abbrev pub DupLaw : Type 0
DupLaw =
    (s : State) (p : ℕ) (l : Live) (c : Call) (j k f : ℕ) (x : OpenFile) (d : Descriptor) → IsLive s p l → c_int c.a0 ≡ pos j → j < NOFILE → get l.descriptors j ≡ Some f → IsLowestUnused s p l k
    → get s.files f ≡ Some x → pipe_of_target x.target ≡ None → (view_of s p l).descriptors j ≡ Some d
    → After s p l (dup c (view_of s p l)) (own_state p (with_answer (pos k) (with_named k f l)) s)

-- or an end of a pipe: one descriptor more is on it
abbrev pub DupPipeLaw : Type 0
DupPipeLaw =
    (s : State) (p : ℕ) (l : Live) (c : Call) (j k i n : ℕ) (end : End) (x : Pipe) (d : Descriptor) (on : OnPipe s p l j i n end x) → c_int c.a0 ≡ pos j → IsLowestUnused s p l k
    → (view_of s p l).descriptors j ≡ Some d
    → After s p l (dup c (view_of s p l)) (piped_state p (with_answer (pos k) (with_named k on.file l)) i (joined x end 1) s)

abbrev pub CloseLaw : Type 0
CloseLaw =
    (frames : ℕ) (s : State) (p : ℕ) (l : Live) (c : Call) (k f : ℕ) (x : OpenFile) (d : Descriptor) (files : FinMap nat_cmp OpenFile) → WellFormed frames s → IsLive s p l
    → c_int c.a0 ≡ pos k → k < NOFILE → get l.descriptors k ≡ Some f → get s.files f ≡ Some x → pipe_of_target x.target ≡ None → (view_of s p l).descriptors k ≡ Some d
    → FilesLeft s (closed_state p l k files s.pipes 0 s)
    → After s p l (close c (view_of s p l)) (closed_state p l k files s.pipes 0 s)

-- or an end of a pipe: one descriptor fewer is on it, and a pipe that nobody is on any more gives its frame back
abbrev pub ClosePipeLaw : Type 0
ClosePipeLaw =
    (frames : ℕ) (s : State) (p : ℕ) (l : Live) (c : Call) (k i n : ℕ) (end : End) (x : Pipe) (d : Descriptor) (files : FinMap nat_cmp OpenFile) (on : OnPipe s p l k i n end x) → WellFormed frames s → c_int c.a0 ≡ pos k
    → (view_of s p l).descriptors k ≡ Some d
    → FilesLeft s (closed_state p l k files (settled i (parted x end 1) s.pipes) (if is_given_up (parted x end 1) then 1 else 0) s)
    → After s p l (close c (view_of s p l)) (closed_state p l k files (settled i (parted x end 1) s.pipes) (if is_given_up (parted x end 1) then 1 else 0) s)

-- ---- well-formed states stay so

abbrev pub WellForked : Type 0
WellForked =
    (frames : ℕ) (s : State) (p : ℕ) (l : Live) → WellFormed frames s → IsLive s p l → price l.image + 1 ≤ s.free
    → WellFormed frames (forked_state p l s)

abbrev pub WellGone : Type 0
WellGone =
    (frames : ℕ) (s : State) (p : ℕ) (l : Live) (status : ℤ) (files : FinMap nat_cmp OpenFile) → WellFormed frames s → IsLive s p l
    → FilesLeft s (gone_state p l status files s)
    → WellFormed frames (gone_state p l status files s)

-- the zombie q is waited for
abbrev pub WellReaped : Type 0
WellReaped =
    (frames : ℕ) (s : State) (p q : ℕ) (status : ℤ) → WellFormed frames s → get s.processes q ≡ Some (Zombie (Some p) status)
    → WellFormed frames (remove_zombie q s)

-- a process changes itself and the console: the frames that its image takes more are taken from the free ones
abbrev pub WellAlone : Type 0
WellAlone =
    (frames : ℕ) (s : State) (p : ℕ) (l : Live) (r : Registers) (image : Image) (c : Option Call) (killed : Bool) (console : Console) (free : ℕ) → WellFormed frames s → IsLive s p l
    → free + (price image + 1) ≡ s.free + (price l.image + 1) → IsWithinLimits console
    → WellFormed frames (alone_state p (record l { regs = r; image = image; call = c; killed = killed }) console free s)

-- writing to memory takes no frame
abbrev pub WritesTakeNothing : Type 0
WritesTakeNothing = (image : Image) (a : ℕ) (bytes : List ℕ) → price (write_image image a bytes) ≡ price image

-- nor does a store
abbrev pub StoresTakeNothing : Type 0
StoresTakeNothing = (image : Image) (st : Store) → price (with_store image st) ≡ price image

-- a pipe has other bytes, and the same counts
abbrev pub WellPiped : Type 0
WellPiped =
    (frames : ℕ) (s : State) (i : ℕ) (x y : Pipe) → WellFormed frames s → get s.pipes i ≡ Some x → y.readers ≡ x.readers → y.writers ≡ x.writers → length y.bytes ≤ PIPE_BYTES
    → WellFormed frames (set_pipe i y s)

-- a program's file has another offset
abbrev pub WellMoved : Type 0
WellMoved =
    (frames : ℕ) (s : State) (f program offset moved : ℕ) (r w : Bool) → WellFormed frames s → get s.files f ≡ Some (record { read = r; write = w; target = File program offset })
    → WellFormed frames (set_file f (record { read = r; write = w; target = File program moved }) s)

-- a process is marked
abbrev pub WellMarked : Type 0
WellMarked = (frames : ℕ) (s : State) (q : ℕ) → WellFormed frames s → WellFormed frames (mark q s)

-- open, dup, close and pipe
abbrev pub WellOpened : Type 0
WellOpened =
    (frames : ℕ) (s : State) (p : ℕ) (l m : Live) (k f : ℕ) (x : OpenFile) → WellFormed frames s → IsLive s p l → k < NOFILE → get l.descriptors k ≡ None
    → NobodyNames s f → pipe_of_target x.target ≡ None → HasTable l m (insert l.descriptors k f)
    → WellFormed frames (filed_state p m f x s)

abbrev pub WellDup : Type 0
WellDup =
    (frames : ℕ) (s : State) (p : ℕ) (l m : Live) (j k f : ℕ) (x : OpenFile) → WellFormed frames s → IsLive s p l → k < NOFILE → get l.descriptors k ≡ None
    → get l.descriptors j ≡ Some f → get s.files f ≡ Some x → pipe_of_target x.target ≡ None → HasTable l m (insert l.descriptors k f)
    → WellFormed frames (own_state p m s)

abbrev pub WellDupPipe : Type 0
WellDupPipe =
    (frames : ℕ) (s : State) (p : ℕ) (l m : Live) (j k i n : ℕ) (end : End) (x : Pipe) (on : OnPipe s p l j i n end x) → WellFormed frames s → k < NOFILE → get l.descriptors k ≡ None
    → HasTable l m (insert l.descriptors k on.file)
    → WellFormed frames (piped_state p m i (joined x end 1) s)

abbrev pub WellClosed : Type 0
WellClosed =
    (frames : ℕ) (s : State) (p : ℕ) (l m : Live) (k f : ℕ) (x : OpenFile) (files : FinMap nat_cmp OpenFile) → WellFormed frames s → IsLive s p l → k < NOFILE → get l.descriptors k ≡ Some f
    → get s.files f ≡ Some x → pipe_of_target x.target ≡ None → HasTable l m (remove l.descriptors k)
    → FilesLeft s (changed_state p m files s.pipes s.console (s.free + 0) s)
    → WellFormed frames (changed_state p m files s.pipes s.console (s.free + 0) s)

abbrev pub WellClosedPipe : Type 0
WellClosedPipe =
    (frames : ℕ) (s : State) (p : ℕ) (l m : Live) (k i n : ℕ) (end : End) (x : Pipe) (files : FinMap nat_cmp OpenFile) (on : OnPipe s p l k i n end x) → WellFormed frames s
    → HasTable l m (remove l.descriptors k)
    → FilesLeft s (changed_state p m files (settled i (parted x end 1) s.pipes) s.console (s.free + (if is_given_up (parted x end 1) then 1 else 0)) s)
    → WellFormed frames (changed_state p m files (settled i (parted x end 1) s.pipes) s.console (s.free + (if is_given_up (parted x end 1) then 1 else 0)) s)

abbrev pub WellMadePipe : Type 0
WellMadePipe =
    (frames : ℕ) (s : State) (p : ℕ) (l m : Live) (r w f g i : ℕ) → WellFormed frames s → IsLive s p l → r < NOFILE → w < NOFILE → r ≢ w → f ≢ g → get l.descriptors r ≡ None → get l.descriptors w ≡ None
    → NobodyNames s f → NobodyNames s g → NobodyHas s i → get s.pipes i ≡ None → 0 < s.free → HasTable l m (insert (insert l.descriptors r f) w g)
    → WellFormed frames (changed_state p m
    (insert (insert s.files f (record { read = true; write = false; target = Pipe_end i Reading })) g (record { read = false; write = true; target = Pipe_end i Writing }))
    (insert s.pipes i new_pipe) s.console (s.free - 1) s)

-- a tick, a key, a byte that is sent
abbrev pub WellOutside : Type 0
WellOutside = (frames : ℕ) (s : State) (clock : ℕ) (console : Console) → WellFormed frames s → IsWithinLimits console → WellFormed frames (record s { clock = clock; console = console })
