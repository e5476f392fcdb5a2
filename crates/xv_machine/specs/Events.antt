-- The events and the outcomes of the machine, in the words of runs.
use Rattle.std.specs.Prelude.{ℤ, Option}
use Rattle.kernel_spec.specs.steps.Own as answers
use Rattle.kernel_spec.specs.runs.Run as runs
use Rattle.xv_machine.specs.declared.event.Event.{Event}
use Rattle.xv_machine.specs.declared.event.Event.TheVariants.{Run, Tick, Key, Send}
use Rattle.xv_machine.specs.declared.event.Outcome.{Outcome}
use Rattle.xv_machine.specs.declared.event.RunOutcome.{RunOutcome}
use Rattle.xv_machine.specs.declared.event.RunOutcome.TheVariants as small
use Rattle.xv_machine.specs.declared.event.Outcome.TheVariants.{Stepped, Called, Blocked, Exited, Faulted, Turn, Idle, Ticked, Typed, Sent, Halted}

abbrev pub event_of : Event → runs.Event
event_of Run = runs.Run
event_of Tick = runs.Tick
event_of (Key byte) = runs.Key byte
event_of Send = runs.Send

abbrev pub outcome_of : Outcome → runs.Outcome
outcome_of (Stepped pid) = runs.Step_of pid answers.Stepped
outcome_of (Called pid number value) = runs.Step_of pid (answers.Called number value)
outcome_of (Blocked pid number) = runs.Step_of pid (answers.Blocked number)
outcome_of (Exited pid status) = runs.Step_of pid (answers.Exited status)
outcome_of (Faulted pid cause) = runs.Step_of pid (answers.Faulted cause)
outcome_of (Turn pid) = runs.Turn pid
outcome_of Idle = runs.Idle
outcome_of Ticked = runs.Ticked
outcome_of (Typed echo) = runs.Typed echo.items
outcome_of (Sent byte) = runs.Sent byte
outcome_of Halted = runs.Halted

-- what came of a Run
abbrev pub run_outcome_of : RunOutcome → runs.Outcome
run_outcome_of (small.Stepped pid) = runs.Step_of pid answers.Stepped
run_outcome_of (small.Called pid number value) = runs.Step_of pid (answers.Called number value)
run_outcome_of (small.Blocked pid number) = runs.Step_of pid (answers.Blocked number)
run_outcome_of (small.Exited pid status) = runs.Step_of pid (answers.Exited status)
run_outcome_of (small.Faulted pid cause) = runs.Step_of pid (answers.Faulted cause)
run_outcome_of (small.Turn pid) = runs.Turn pid
run_outcome_of small.Idle = runs.Idle
run_outcome_of small.Halted = runs.Halted

-- the status with which process 1 goes, where it does
abbrev pub halted_by : RunOutcome → Option ℤ
halted_by outcome = runs.halted_by (run_outcome_of outcome)
