-- What a sleeper waits for, and who could wake it, as it is told. What a process waits for is `waits_for` of `kernel_spec`'s `specs/waking/Conditions.antt`.
use Rattle.std.specs.Prelude.{ℕ, ◌+◌, ◌%◌, ◌==◌, ◌&&◌, Bool, true, false, if◌then◌else◌, Option, None, Some, ℤ, pos, negsuc, nat_lt}
use Rattle.std.specs.FinSet.{contains}
use Rattle.xk_base.specs.Image.{some_below}
use Rattle.xk_base.specs.declared.limits.TheConstants.{NOFILE}
use Rattle.file_table.specs.declared.open_file.End.{End}
use Rattle.file_table.specs.declared.open_file.End.TheVariants.{Reading, Writing}
use Rattle.file_table.specs.declared.open_file.Target.{Target}
use Rattle.file_table.specs.declared.open_file.Target.TheVariants.{Console as Terminal, Program as File, Pipe as Pipe_end}
use Rattle.proc_table.specs.declared.process.Call.{Call}
use Rattle.kernel_spec.specs.others.Quiet.{file_at}
use Rattle.kernel_spec.specs.steps.Updates.{end_of}
use Rattle.kernel_spec.specs.runs.Run.{World}
use Rattle.kernel_spec.specs.views.Processes.{Live, Child as Seen, Running, Status}
use Rattle.kernel_spec.specs.views.State.{State, live}
use Rattle.kernel_spec.specs.views.Words.{c_int, or_zero, CLOCK_ROUND}
use Rattle.kcall_core.specs.Observers.{child_at}
use Rattle.kernel_spec.specs.waking.Conditions.{Condition, Nothing, Child_of, Bytes, Room, Time, Keys as Line, Sending as Send_room, waits_for, call_waits_for}
use Rattle.xv_report.specs.declared.waits.Wait.{Wait}
use Rattle.xv_report.specs.declared.waits.Wait.TheVariants.{Until, Child, PipeBytes, PipeRoom, Keys, Sending}

-- ---- what a sleeper waits for

-- the descriptor of this number
abbrev pub descriptor_in : ℤ → Option ℕ
descriptor_in (pos d) = if nat_lt d NOFILE then Some d else None
descriptor_in (negsuc k) = None

-- that of a read or a write
abbrev pub descriptor_of_call : Option Call → ℕ
descriptor_of_call None = 0
descriptor_of_call (Some c) = or_zero (descriptor_in (c_int c.a0))

-- what has to come, as it is told of a call on descriptor d. A time is told by the tick at which it is over
abbrev pub told_on : (d : ℕ) → Condition → Option Wait
told_on d Nothing = None
told_on d (Child_of p) = Some Child
told_on d (Bytes i) = Some (PipeBytes d i)
told_on d (Room i) = Some (PipeRoom d i)
told_on d (Time since ticks) = Some (Until ((since + ticks) % CLOCK_ROUND))
told_on d Line = Some (Keys d)
told_on d Send_room = Some (Sending d)

-- what process p, which is l, waits for in a call
abbrev pub wait_in_this : State → ℕ → Live → Call → Option Wait
wait_in_this s p l c = told_on (descriptor_of_call (Some c)) (call_waits_for s p l (Some c))

-- what process p waits for, if it is live
abbrev pub wait_in : State → ℕ → Option Live → Option Wait
wait_in s p None = None
wait_in s p (Some l) = told_on (descriptor_of_call l.call) (waits_for s p l)

-- what process p sleeps on; none where no live process has this pid, and where it doesn't sleep
abbrev pub wait_of : World → ℕ → Option Wait
wait_of w p = if contains w.turns.sleepers p then wait_in w.state p (live w.state p) else None

-- ---- who could wake it

-- they are the same end
abbrev pub same_end : End → End → Bool
same_end Reading Reading = true
same_end Writing Writing = true
same_end _ _ = false

abbrev pub is_end_at : ℕ → End → Target → Bool
is_end_at i end Terminal = false
is_end_at i end (File program offset) = false
is_end_at i end (Pipe_end k held) = (k == i) && same_end held end

-- it is this end of pipe i
abbrev pub is_end : ℕ → End → Option Target → Bool
is_end i end None = false
is_end i end (Some target) = is_end_at i end target

-- a descriptor of the live process p is on this end of pipe i
abbrev pub holds_end : State → (p i : ℕ) → End → Bool
holds_end s p i end = some_below NOFILE (λ d. is_end i end (end_of s (file_at s p d)))

abbrev pub is_running : Option Seen → Bool
is_running None = false
is_running (Some Running) = true
is_running (Some (Status status)) = false

-- q is a live child of the live process p
abbrev pub is_live_child : State → (p q : ℕ) → Bool
is_live_child s p q = is_running (child_at s p q)

-- By what it does, process q could bring what p waits for: it can write into the pipe, or read from it, or it is a child that can end. A clock, a key and a terminal are no process
abbrev pub could_wake : State → ℕ → Wait → ℕ → Bool
could_wake s p Child q = is_live_child s p q
could_wake s p (PipeBytes d i) q = holds_end s q i Writing
could_wake s p (PipeRoom d i) q = holds_end s q i Reading
could_wake s p (Until tick) q = false
could_wake s p (Keys d) q = false
could_wake s p (Sending d) q = false
