-- The line of a step: of one that does a kernel call, begins to wait in one, or ends a process.
use Rattle.std.specs.Prelude.{ℕ, ℤ, pos, Bool, if◌then◌else◌, List, [], ◌++◌, codes, decimal, Option, None, Some}
use Rattle.std.specs.Ordering.{int_eq}
use Rattle.xk_base.specs.Access.{code_of}
use Rattle.kernel_spec.specs.runs.Run.{World, Outcome, Step_of}
use Rattle.kernel_spec.specs.steps.Own.{Answer, Stepped, Called, Blocked, Exited, Faulted}
use Rattle.kernel_spec.specs.views.State.{State}
use Rattle.xv_session.specs.declared.names.Named.{Named}
use Rattle.call_lines.specs.Line.{answer_shown}
use Rattle.call_reasons.specs.declared.asked.Asked.{Asked}
use Rattle.explained_run.specs.Chosen.{shows, shows_process}
use Rattle.explained_run.specs.Seen.{Before, asked_text, before, name_in}
use Rattle.explained_run.specs.declared.choice.Choice.{Choice}

-- what stands before a call that has waited
abbrev pub mark : (resumed : Bool) → List ℕ
mark resumed = if resumed then codes "<.. resumed> " else []

-- what a call has answered, by the memory after it
abbrev pub answered_text : State → (p : ℕ) → Option Asked → (value : ℤ) → List ℕ
answered_text s p None value = []
answered_text s p (Some asked) value = answer_shown s p asked value

-- a call that is done, by the memory after it; call 7 is exec, of which the memory before it tells
abbrev pub done_text : Before → State → (p : ℕ) → (number value : ℤ) → List ℕ
done_text b s p number value = if int_eq number (pos 7) then b.call else asked_text b.shown s p b.asked (Some value)

abbrev pub called_line : Before → State → (p : ℕ) → (number value : ℤ) → List ℕ
called_line b s p number value = b.who ++ mark b.resumed ++ done_text b s p number value ++ answered_text s p b.asked value ++ codes "\n"

abbrev pub waiting_line : Before → List ℕ
waiting_line b = b.who ++ b.call ++ codes " <unfinished ..>\n"

-- a marked process is killed; any other has called exit
abbrev pub end_text : Before → List ℕ
end_text b = if b.marked then codes "killed" else b.call

abbrev pub ended_line : Before → List ℕ
ended_line b = b.who ++ end_text b ++ codes "\n"

abbrev pub fault_line : Before → (code : ℕ) → List ℕ
fault_line b code = b.who ++ codes "fault " ++ decimal code ++ codes "\n"

-- of a step of process p, before which this was seen, and after which the state is s
abbrev pub step_line : Before → State → (p : ℕ) → Answer → List ℕ
step_line b s p Stepped = []
step_line b s p (Called number value) = called_line b s p number value
step_line b s p (Blocked number) = waiting_line b
step_line b s p (Exited status) = ended_line b
step_line b s p (Faulted cause) = fault_line b (code_of cause)

abbrev pub line : Before → State → (p : ℕ) → Outcome → List ℕ
line b s p (Step_of q answer) = step_line b s p answer
line b s p _ = []

-- ---- of an event

-- the line, if it is asked for
abbrev pub told_of : Choice → Before → State → (p : ℕ) → Outcome → List ℕ
told_of choice b s p o = if shows choice b o then line b s p o else []

abbrev pub told_by : Choice → (place : ℕ) → World → List Named → (current : Option ℕ) → Outcome → State → List ℕ
told_by choice place w names None o s = []
told_by choice place w names (Some p) o s = if shows_process choice p (name_in w names p) then told_of choice (before choice.numbers choice.shown place w names p) s p o else []

-- what is told of an event that leads from a world, to which so many events led and in which processes run these programs, to a state
abbrev pub told : Choice → (place : ℕ) → World → List Named → Outcome → State → List ℕ
told choice place w names o s = told_by choice place w names w.turns.current o s
