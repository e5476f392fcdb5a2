-- The changes of the state that a step is made of: what each kernel call's code is to be proved to do.
-- Nothing here has to be believed: that these changes make the step that `Run` asks for is what the laws prove.
use Rattle.std.specs.Prelude.{ℕ, zero, suc, ℤ, pos, ◌+◌, ◌-◌, true, false, if◌then◌else◌, ◌||◌, nat_eq, List, Option, None, Some, fold}
use Rattle.std.specs.Int.{cast_unsigned, w32}
use Rattle.std.specs.FinMap.{FinMap, get, insert, remove, keys}
use Rattle.std.specs.Ordering.{nat_cmp}
use Rattle.xk_base.specs.declared.limits.TheConstants.{NOFILE}
use Rattle.xk_base.specs.Words.{le_bytes}
use Rattle.xk_base.specs.Image.{Image, price}
use Rattle.xk_base.specs.Bytes.{write_image}
use Rattle.xk_base.specs.Loaded.{Loaded}
use Rattle.rv64i_core.specs.Registers.{Registers, put, with_pc}
use Rattle.rv64i_core.specs.Memory.{Store}
use Rattle.rv64i_core.specs.UserImage.{with_store}
use Rattle.pipe_core.specs.Pipe.{Pipe}
use Rattle.console_core.specs.Lists.{Console}
use Rattle.file_table.specs.declared.open_file.End.{End}
use Rattle.file_table.specs.declared.open_file.OpenFile.{OpenFile}
use Rattle.file_table.specs.declared.open_file.Target.{Target}
use Rattle.file_table.specs.declared.open_file.Target.TheVariants.{Console as Terminal, Program as File, Pipe as Pipe_end}
use Rattle.proc_table.specs.declared.process.Call.{Call}
use Rattle.kernel_spec.specs.views.Words.{SP, A1, is_this, word}
use Rattle.kernel_spec.specs.views.PipeEnds.{joined, parted, is_given_up}
use Rattle.kernel_spec.specs.rows.Calls.{with_a0}
use Rattle.kernel_spec.specs.views.Processes.{Process, Live, Alive, Zombie, parent_of}
use Rattle.kernel_spec.specs.views.State.{State}

-- ---- what a descriptor's open file is on

abbrev pub target_of_open : Option OpenFile → Option Target
target_of_open None = None
target_of_open (Some f) = Some f.target

-- what the open file that a descriptor names is on
abbrev pub end_of : State → Option ℕ → Option Target
end_of s None = None
end_of s (Some file) = target_of_open (get s.files file)

-- ---- one part of the state

-- process p, which is live, is now this
abbrev pub set_live : ℕ → Live → State → State
set_live p l s = record s { processes = insert s.processes p (Alive l) }

-- pipe i, which is there, is now this
abbrev pub set_pipe : ℕ → Pipe → State → State
set_pipe i x s = record s { pipes = insert s.pipes i x }

-- open file f is now this
abbrev pub set_file : ℕ → OpenFile → State → State
set_file f x s = record s { files = insert s.files f x }

abbrev pub give_frames : ℕ → State → State
give_frames n s = record s { free = s.free + n }

-- the zombie q is waited for
abbrev pub remove_zombie : ℕ → State → State
remove_zombie q s = record s { processes = remove s.processes q }

-- ---- marks, and parents that go

abbrev pub marked : Process → Process
marked (Alive l) = Alive (record l { killed = true })
marked (Zombie parent status) = Zombie parent status

abbrev pub given_to : ℕ → Process → Process
given_to p (Alive l) = Alive (record l { parent = Some p })
given_to p (Zombie parent status) = Zombie (Some p) status

abbrev pub change : (Process → Process) → ℕ → FinMap nat_cmp Process → Option Process → FinMap nat_cmp Process
change f q m None = m
change f q m (Some x) = insert m q (f x)

abbrev pub mark : ℕ → State → State
mark q s = record s { processes = change marked q s.processes (get s.processes q) }

-- a child of p goes to pid 1
abbrev pub orphan : ℕ → Process → Process
orphan p x = if is_this p (parent_of x) then given_to 1 x else x

abbrev pub orphans : ℕ → State → State
orphans p s = record s { processes = fold (λ m q. change (orphan p) q m (get m q)) s.processes (keys s.processes) }

abbrev pub end_process : ℕ → Option ℕ → ℤ → State → State
end_process p parent status s = record s { processes = insert s.processes p (Zombie parent status) }

-- ---- the counts of a pipe

-- one descriptor more on the open file with this target: the pipes after it
abbrev pub more_at : ℕ → End → FinMap nat_cmp Pipe → Option Pipe → FinMap nat_cmp Pipe
more_at i end m None = m
more_at i end m (Some x) = insert m i (joined x end 1)

abbrev pub more_on : Option Target → FinMap nat_cmp Pipe → FinMap nat_cmp Pipe
more_on None m = m
more_on (Some Terminal) m = m
more_on (Some (File program offset)) m = m
more_on (Some (Pipe_end i end)) m = more_at i end m (get m i)

-- pipe i is now this, or given up
abbrev pub settled : ℕ → Pipe → FinMap nat_cmp Pipe → FinMap nat_cmp Pipe
settled i x m = if is_given_up x then remove m i else insert m i x

abbrev pub fewer_at : ℕ → End → FinMap nat_cmp Pipe → Option Pipe → FinMap nat_cmp Pipe
fewer_at i end m None = m
fewer_at i end m (Some x) = settled i (parted x end 1) m

-- one descriptor fewer, and how many frames that frees
abbrev pub fewer_on : Option Target → FinMap nat_cmp Pipe → FinMap nat_cmp Pipe
fewer_on None m = m
fewer_on (Some Terminal) m = m
fewer_on (Some (File program offset)) m = m
fewer_on (Some (Pipe_end i end)) m = fewer_at i end m (get m i)

abbrev pub freed_at : End → Option Pipe → ℕ
freed_at end None = 0
freed_at end (Some x) = if is_given_up (parted x end 1) then 1 else 0

abbrev pub freed_on : Option Target → FinMap nat_cmp Pipe → ℕ
freed_on None m = 0
freed_on (Some Terminal) m = 0
freed_on (Some (File program offset)) m = 0
freed_on (Some (Pipe_end i end)) m = freed_at end (get m i)

-- The pipes with each of the first n descriptors of a process counted once more
unfoldable pub more_on_all : State → Live → (n : ℕ) → FinMap nat_cmp Pipe
more_on_all s l zero = s.pipes
more_on_all s l (suc n) = more_on (end_of s (get l.descriptors n)) (more_on_all s l n)

-- The pipes where the first n descriptors are closed, the last one first, so that a pipe is given up at the least descriptor on it; and how many frames that frees
unfoldable pub fewer_on_all : State → Live → (n : ℕ) → FinMap nat_cmp Pipe → FinMap nat_cmp Pipe
fewer_on_all s l zero m = m
fewer_on_all s l (suc n) m = fewer_on_all s l n (fewer_on (end_of s (get l.descriptors n)) m)

unfoldable pub freed_on_all : State → Live → (n : ℕ) → FinMap nat_cmp Pipe → ℕ
freed_on_all s l zero m = 0
freed_on_all s l (suc n) m = freed_on_all s l n (fewer_on (end_of s (get l.descriptors n)) m) + freed_on (end_of s (get l.descriptors n)) m

-- ---- fork

-- the caller and its child, which have the same image and name the same open files
abbrev pub forking : State → Live → Live
forking s l = record l { regs = with_a0 l.regs (word (pos s.next_pid)); call = None }

abbrev pub forked_child : State → ℕ → Live → Live
forked_child s p l = record l { regs = with_a0 (with_a0 l.regs (word (pos s.next_pid))) 0; parent = Some p; killed = false; call = None }

-- process p, which is l, forks
abbrev pub forked_state : ℕ → Live → State → State
forked_state p l s = record s {
  processes = insert (insert s.processes p (Alive (forking s l))) s.next_pid (Alive (forked_child s p l));
  pipes = more_on_all s l NOFILE;
  next_pid = s.next_pid + 1;
  free = s.free - (price l.image + 1);
}

-- ---- exit

-- Process p, which is l, is gone with a status: its children go to pid 1, its descriptors are closed, its frames are free. Open files are left that another process names
abbrev pub gone_state : ℕ → Live → ℤ → FinMap nat_cmp OpenFile → State → State
gone_state p l status files s = record s {
  processes = insert (orphans p s).processes p (Zombie l.parent status);
  files = files;
  pipes = fewer_on_all s l NOFILE s.pipes;
  free = s.free + price l.image + 1 + freed_on_all s l NOFILE s.pipes;
}

-- ---- wait

-- the image with the zombie's status at address a, where a isn't 0
abbrev pub told_image : ℕ → ℤ → Image → Image
told_image a status i = if nat_eq a 0 then i else write_image i a (le_bytes 4 (cast_unsigned w32 status))

-- a process that has waited for the zombie q
abbrev pub waited : Call → (q : ℕ) → (status : ℤ) → Live → Live
waited c q status l = record l { regs = with_a0 l.regs (word (pos q)); image = told_image c.a0 status l.image; call = None }

-- process p, now l, has waited for the zombie q
abbrev pub waited_state : ℕ → Live → ℕ → State → State
waited_state p l q s = record s { processes = remove (insert s.processes p (Alive l)) q }

-- ---- all other calls

-- process p is now this, with these open files, pipes, console and free frames
abbrev pub changed_state : ℕ → Live → FinMap nat_cmp OpenFile → FinMap nat_cmp Pipe → Console → (free : ℕ) → State → State
changed_state p l files pipes console free s = record s { processes = insert s.processes p (Alive l); files = files; pipes = pipes; console = console; free = free }

-- process p is now this, and pipe i is this
abbrev pub piped_state : ℕ → Live → ℕ → Pipe → State → State
piped_state p l i x s = changed_state p l s.files (insert s.pipes i x) s.console s.free s

-- process p is now this, and open file f is this
abbrev pub filed_state : ℕ → Live → ℕ → OpenFile → State → State
filed_state p l f x s = changed_state p l (insert s.files f x) s.pipes s.console s.free s

-- descriptor d names the open file f
abbrev pub with_named : ℕ → ℕ → Live → Live
with_named d f l = record l { descriptors = insert l.descriptors d f }

-- descriptor d names nothing
abbrev pub with_closed : ℕ → Live → Live
with_closed d l = record l { descriptors = remove l.descriptors d }

-- the bytes are at address a of its memory
abbrev pub with_bytes : ℕ → List ℕ → Live → Live
with_bytes a bytes l = record l { image = write_image l.image a bytes }

-- process p is now this
abbrev pub own_state : ℕ → Live → State → State
own_state p l s = changed_state p l s.files s.pipes s.console s.free s

-- process p is now this, with this console and so many free frames
abbrev pub alone_state : ℕ → Live → Console → (free : ℕ) → State → State
alone_state p l console free s = changed_state p l s.files s.pipes console free s

-- its call is done, with this answer
abbrev pub with_answer : ℤ → Live → Live
with_answer value l = record l { regs = with_a0 l.regs (word value); call = None }

-- its call is in progress
abbrev pub in_call : Call → Live → Live
in_call c l = record l { call = Some c }

-- an instruction gave it these registers, and perhaps stored
abbrev pub stepped : Registers → Option Store → Live → Live
stepped r None l = record l { regs = r }
stepped r (Some st) l = record l { regs = r; image = with_store l.image st }

-- it runs another image, from its entry
abbrev pub started : Loaded → Live → Live
started new l = record l { image = new.image; regs = with_pc (put (put l.regs SP new.sp) A1 new.sp) new.pc }

-- process p, which is l, has marked pid q, perhaps itself
abbrev pub killer : (p q : ℕ) → Live → Live
killer p q l = record l { regs = with_a0 l.regs (word (pos 0)); call = None; killed = l.killed || nat_eq q p }

-- process p is now l, and pid q is marked
abbrev pub kill_state : ℕ → Live → ℕ → State → State
kill_state p l q s = mark q (own_state p l s)
