-- Which of a run's pipes is which: they are numbered from 1 on, in the order in which they were made. A pipe lies in a frame, and a frame that is freed can be another pipe's later; so of each frame the last pipe that was made in it counts.
use Rattle.std.specs.Prelude.{ℕ, pos, ◌&&◌, if◌then◌else◌, nat_lt, List, [], Option, None, Some}
use Rattle.std.specs.Int.{cast_unsigned, w64}
use Rattle.std.specs.Ordering.{int_eq, nat_cmp}
use Rattle.std.specs.BTreeMap.{insert_entry, is_at}
use Rattle.std.specs.Map.{lookup}
use Rattle.xk_base.specs.declared.limits.TheConstants.{NOFILE}
use Rattle.file_table.specs.declared.open_file.Target.{Target}
use Rattle.file_table.specs.declared.open_file.Target.TheVariants as target
use Rattle.kernel_spec.specs.runs.Run.{World, Outcome, Step_of, Turn, Idle, Ticked, Typed, Sent, Halted}
use Rattle.kernel_spec.specs.steps.Own.{Answer, Stepped, Called, Blocked, Exited, Faulted}
use Rattle.kernel_spec.specs.views.State.{State}
use Rattle.kernel_spec.specs.views.Words.{or_zero}
use Rattle.kernel_calls.specs.declared.numbers.TheConstants.{PIPE}
use Rattle.kcall_core.specs.Observers.{byte_at, descriptor_of}
use Rattle.kcall_core.specs.declared.kernel.observers.Descriptor.{Descriptor}
use Rattle.run_work.specs.Work.{with_more}
use Rattle.grade_rules.specs.declared.given.Given.{Given}
use Rattle.grade_submissions.specs.declared.pipes.MadePipes.{MadePipes}

-- ---- the pipes that were made

pub record Made : Type 0 where
  -- how many
  pub count : ℕ
  -- of each frame in which one lay the number of the last one, in the order of the frames
  pub latest : List (ℕ × ℕ)

abbrev pub made_of : MadePipes → Made
made_of pipes = record { count = pipes.made; latest = pipes.latest.entries }

abbrev pub none_made : Made
none_made = record { count = 0; latest = [] }

-- the number of the pipe that lies in a frame; 0 if none was made there
abbrev pub number_in : Made → (frame : ℕ) → ℕ
number_in made frame = or_zero (lookup (is_at (nat_cmp frame)) made.latest)

-- ---- the frame of a pipe

-- that of a pipe of which this is an end
abbrev pub frame_of : Target → Option ℕ
frame_of target.Console = None
frame_of (target.Program program offset) = None
frame_of (target.Pipe frame end) = Some frame

abbrev pub frame_on : Option Descriptor → Option ℕ
frame_on None = None
frame_on (Some descriptor) = frame_of descriptor.open_file.target

abbrev pub frame_named : State → (p : ℕ) → (descriptor : Option ℕ) → Option ℕ
frame_named s p None = None
frame_named s p (Some d) = if nat_lt d NOFILE then frame_on (descriptor_of s p d) else None

-- that of the pipe that a call has made (the xv6 book, "Pipes"): the call has written the number of its read end to the address that it was given
abbrev pub frame_made : State → (p : ℕ) → Given → Option ℕ
frame_made s p given = frame_named s p (byte_at s p (cast_unsigned w64 given.first))

-- ---- which pipe an end is of

abbrev pub number_if : Made → (frame : Option ℕ) → ℕ
number_if made None = 0
number_if made (Some frame) = number_in made frame

-- the number of the pipe of which this is an end; 0 if it is no end of a pipe
abbrev pub number_on : Made → Option Target → ℕ
number_on made None = 0
number_on made (Some open_on) = number_if made (frame_of open_on)

-- ---- one more

-- a pipe in this frame
abbrev pub with_pipe : (frame : Option ℕ) → Made → Made
with_pipe None made = made
with_pipe (Some frame) made = record { count = with_more made.count 1; latest = insert_entry nat_cmp made.latest frame (with_more made.count 1) }

-- after a step of process p that came to the world t, and whose call was given this: `pipe` has answered 0
abbrev pub pipes_stepped : Given → (t : World) → (p : ℕ) → Answer → Made → Made
pipes_stepped given t p (Called number value) made = if int_eq number PIPE && int_eq value (pos 0) then with_pipe (frame_made t.state p given) made else made
pipes_stepped given t p Stepped made = made
pipes_stepped given t p (Blocked number) made = made
pipes_stepped given t p (Exited status) made = made
pipes_stepped given t p (Faulted cause) made = made

abbrev pub pipes_after : Given → (t : World) → Outcome → Made → Made
pipes_after given t (Step_of p answer) made = pipes_stepped given t p answer made
pipes_after given t (Turn p) made = made
pipes_after given t Idle made = made
pipes_after given t Ticked made = made
pipes_after given t (Typed echo) made = made
pipes_after given t (Sent byte) made = made
pipes_after given t Halted made = made
