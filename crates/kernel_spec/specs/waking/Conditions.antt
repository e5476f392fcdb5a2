-- What a sleeper waits for, and what an event has to wake (the xv6 book, "Sleep and wakeup").
use Rattle.std.specs.Prelude.{◌≡◌, ℕ, Bool, true, false, if◌then◌else◌, not, ◌||◌, Option, None, Some, ℤ, pos, negsuc, nat_lt, is_some, find, ◌⊎◌, ◌≢◌, ◌↔◌, IsSome}
use Rattle.std.specs.List.{list_any}
use Rattle.std.specs.FinMap.{FinMap, get, keys}
use Rattle.std.specs.Ordering.{nat_cmp}
use Rattle.xk_base.specs.declared.limits.TheConstants.{NOFILE}
use Rattle.file_table.specs.declared.open_file.Target.{Target}
use Rattle.file_table.specs.declared.open_file.Target.TheVariants.{Console as Terminal, Program as File, Pipe as Pipe_end}
use Rattle.proc_table.specs.declared.process.Call.{Call}
use Rattle.file_table.specs.declared.open_file.OpenFile.{OpenFile}
use Rattle.kernel_spec.specs.views.Words.{c_int}
use Rattle.kernel_spec.specs.views.PipeEnds.{has_bytes, has_room}
use Rattle.kernel_spec.specs.rows.Terminal.{has_committed, has_room_to_send}
use Rattle.kernel_spec.specs.steps.Ticks.{ticks_since, has_passed}
use Rattle.kernel_spec.specs.views.Processes.{Live, has_status}
use Rattle.kernel_spec.specs.views.State.{State, live}
use Rattle.kernel_spec.specs.views.View.{View, view_of, child_of, or_gone}
use Rattle.kernel_spec.specs.rows.Calls.{Row, Wait, Read, Write, Sleep, row_of}
use Rattle.kernel_spec.specs.steps.Updates.{end_of, target_of_open}
use Rattle.kernel_spec.specs.others.Quiet.{file_at, pipe_at}
use Rattle.kernel_spec.specs.waking.Turns.{Sleeps}
use Rattle.kernel_spec.specs.runs.Run.{World, Outcome, Ticked}
use Rattle.kernel_spec.specs.waking.Wakes.{IsInCall, IsEnd}

-- What has to come before a process that waits may go on
pub data Condition : Type 0 where
  -- it waits for nothing
  Nothing : Condition
  -- a child of this process
  Child_of : (pid : ℕ) → Condition
  -- bytes in a pipe, room in a pipe
  Bytes : (pipe : ℕ) → Condition
  Room : (pipe : ℕ) → Condition
  -- the clock, so many ticks from a time on
  Time : (since ticks : ℕ) → Condition
  -- a line of keys, room to send
  Keys : Condition
  Sending : Condition

-- who waits for it may go on
abbrev pub is_open : State → Condition → Bool
is_open s Nothing = true
is_open s (Child_of p) = is_some (find (λ r. has_status (child_of p (get s.processes r))) (keys s.processes)) || not (list_any (λ r. is_some (child_of p (get s.processes r))) (keys s.processes))
is_open s (Bytes i) = has_bytes (or_gone (get s.pipes i))
is_open s (Room i) = has_room (or_gone (get s.pipes i))
is_open s (Time since ticks) = has_passed (ticks_since s.clock since) (pos ticks)
is_open s Keys = has_committed s.console
is_open s Sending = has_room_to_send s.console

-- what a read waits for on this target
abbrev pub read_waits_for : Option Target → Condition
read_waits_for None = Nothing
read_waits_for (Some Terminal) = Keys
read_waits_for (Some (File program offset)) = Nothing
read_waits_for (Some (Pipe_end i end)) = Bytes i

-- and a write
abbrev pub write_waits_for : Option Target → Condition
write_waits_for None = Nothing
write_waits_for (Some Terminal) = Sending
write_waits_for (Some (File program offset)) = Nothing
write_waits_for (Some (Pipe_end i end)) = Room i

-- what the descriptor of this number is on
abbrev pub target_at : State → Live → ℤ → Option Target
target_at s l (pos d) = if nat_lt d NOFILE then end_of s (get l.descriptors d) else None
target_at s l (negsuc k) = None

-- what sleep waits for
abbrev pub sleep_waits_for : Call → ℤ → Condition
sleep_waits_for c (pos n) = Time c.clock n
sleep_waits_for c (negsuc k) = Nothing

-- what process p, which is l, waits for in the call c of this row
abbrev pub row_waits_for : State → ℕ → Live → Call → Option Row → Condition
row_waits_for s p l c (Some Wait) = Child_of p
row_waits_for s p l c (Some Read) = read_waits_for (target_at s l (c_int c.a0))
row_waits_for s p l c (Some Write) = write_waits_for (target_at s l (c_int c.a0))
row_waits_for s p l c (Some Sleep) = sleep_waits_for c (c_int c.a0)
row_waits_for s p l c _ = Nothing

-- and in its call
abbrev pub call_waits_for : State → ℕ → Live → Option Call → Condition
call_waits_for s p l None = Nothing
call_waits_for s p l (Some c) = row_waits_for s p l c (row_of c.number)

-- what process p, which is l, waits for
abbrev pub waits_for : State → ℕ → Live → Condition
waits_for s p l = call_waits_for s p l l.call

-- ---- what each update may make come: whoever waits for something else sleeps on

abbrev pub OpensOnly : State → State → (Condition → Type 0) → Type 0
OpensOnly s t may = (c : Condition) → is_open s c ≡ false → is_open t c ≡ true → may c

abbrev pub IsOfPipe : ℕ → Condition → Type 0
IsOfPipe i c = (c ≡ Bytes i) ⊎ (c ≡ Room i)

abbrev pub IsOfConsole : Condition → Type 0
IsOfConsole c = (c ≡ Keys) ⊎ (c ≡ Sending)

abbrev pub IsTime : Condition → Type 0
IsTime c = (since : ℕ) × (ticks : ℕ) × (c ≡ Time since ticks)

-- the end of p: its parent's and process 1's children, and the pipes that p was on
abbrev pub MayOpenAtEnd : State → ℕ → Live → Condition → Type 0
MayOpenAtEnd s p l c = ((q : ℕ) × (c ≡ Child_of q) × ((l.parent ≡ Some q) ⊎ (q ≡ 1) ⊎ (q ≡ p))) ⊎ ((j : ℕ) × (e : ℕ) × IsOfPipe j c × (pipe_at s p e ≡ Some j))

-- ---- what no update changes: what everybody else waits for, and marks

-- each process but p that is live in s and in t waits in t for what it waited for in s, and is marked where it was
abbrev pub OthersWaitOn : State → ℕ → State → Type 0
OthersWaitOn s p t = (q : ℕ) (l m : Live) → q ≢ p → live s q ≡ Some l → live t q ≡ Some m → (waits_for t q m ≡ waits_for s q l) × (l.killed ≡ true → m.killed ≡ true)

-- a target, without how far it was read: nobody waits on a program's file, wherever its next byte is
abbrev pub at_start : Option Target → Option Target
at_start None = None
at_start (Some Terminal) = Some Terminal
at_start (Some (File program offset)) = Some (File program 0)
at_start (Some (Pipe_end i end)) = Some (Pipe_end i end)

-- each open file that a process other than p names is on what it was on
abbrev pub KeepsTargets : State → ℕ → FinMap nat_cmp OpenFile → Type 0
KeepsTargets s p files = (q d f : ℕ) → q ≢ p → file_at s q d ≡ Some f → at_start (target_of_open (get files f)) ≡ at_start (target_of_open (get s.files f))

-- ---- waking by conditions is waking where it is due

-- it counts ticks and there was one, or it is process 1 in wait and a process went
abbrev pub WakesAnyway : ℕ → View → Outcome → Type 0
WakesAnyway q v o = (IsInCall 13 v × (o ≡ Ticked)) ⊎ ((q ≡ 1) × IsInCall 3 v × IsEnd o)

-- Of the sleepers those wake who are newly marked, who wait for one of the conditions that came, or who wake anyway. Each condition that opened came, and each that came is open
pub record WakesByConditions (w : World) (o : Outcome) (t : World) (came : Condition → Bool) : Type 0 where
  pub live_before : (q : ℕ) → Sleeps w.turns q → IsSome (live w.state q)
  pub same : (q : ℕ) (l m : Live) → Sleeps w.turns q → live w.state q ≡ Some l → live t.state q ≡ Some m → waits_for t.state q m ≡ waits_for w.state q l
  pub marks_stay : (q : ℕ) (l m : Live) → live w.state q ≡ Some l → live t.state q ≡ Some m → l.killed ≡ true → m.killed ≡ true
  pub opened : (c : Condition) → is_open w.state c ≡ false → is_open t.state c ≡ true → came c ≡ true
  pub open_now : (c : Condition) → came c ≡ true → is_open t.state c ≡ true
  pub woken :
      (q : ℕ) (l m : Live) → Sleeps w.turns q → live w.state q ≡ Some l → live t.state q ≡ Some m
      → (¬ Sleeps t.turns q) ↔ ((came (waits_for w.state q l) ≡ true) ⊎ ((l.killed ≡ false) × (m.killed ≡ true)) ⊎ WakesAnyway q (view_of t.state q m) o)
