-- What a trace keeps of events: a note of each.
use Rattle.std.specs.Prelude.{ℕ, Bool, true, false, List, map, length}
use Rattle.kernel_spec.specs.steps.Own as answers
use Rattle.kernel_spec.specs.runs.Run as runs
use Rattle.xv_machine.specs.declared.trace.Note.{Note}
use Rattle.xv_machine.specs.declared.trace.Note.TheVariants.{Stepped, Called, Blocked, Exited, Faulted, Turn, Idle, Ticked, Typed, Sent, Halted}

-- of a step of this process
abbrev pub step_note : (pid : ℕ) → answers.Answer → Note
step_note pid answers.Stepped = Stepped pid
step_note pid (answers.Called number value) = Called pid number value
step_note pid (answers.Blocked number) = Blocked pid number
step_note pid (answers.Exited status) = Exited pid status
step_note pid (answers.Faulted cause) = Faulted pid cause

-- the byte of a key; 0 of any other event
abbrev pub key_of : runs.Event → ℕ
key_of runs.Run = 0
key_of runs.Tick = 0
key_of (runs.Key byte) = byte
key_of runs.Send = 0

-- an event and what came of it
abbrev pub note : runs.Event → runs.Outcome → Note
note event (runs.Step_of pid answer) = step_note pid answer
note event (runs.Turn pid) = Turn pid
note event runs.Idle = Idle
note event runs.Ticked = Ticked
note event (runs.Typed echo) = Typed (key_of event) (length echo)
note event (runs.Sent byte) = Sent byte
note event runs.Halted = Halted

-- what comes of a Tick, if the clock has counted it, and if process 1 is gone
abbrev pub ticked : Bool → runs.Outcome
ticked true = runs.Ticked
ticked false = runs.Halted

-- those of a list, in order
abbrev pub notes_of : List (runs.Event × runs.Outcome) → List Note
notes_of list = map (λ e. note e.0 e.1) list
