-- Whose step was last: a function of the events that the machine got.
use Rattle.std.specs.Prelude.{◌≡◌, ℕ, List, flat_map, Option, None, Some}
use Rattle.std.specs.List.{last_or}
use Rattle.std.specs.Option.{option_to_list}
use Rattle.kernel_spec.specs.runs.Run.{Event, Outcome, Step_of}
use Rattle.kernel_spec.specs.runs.Rounds.{events}
use Rattle.kernel_spec.specs.views.State.{ProgramFile}
use Rattle.xv_machine.specs.Meaning.{Meaning}
use Rattle.xv_machine.specs.Reached.{IsReached}
use Rattle.xv_session.specs.Recorded.{Recorded}

-- the process that made the step of which this came
abbrev pub stepper : Outcome → Option ℕ
stepper (Step_of p answer) = Some p
stepper _ = None

-- the processes that made steps, one for each step, in their order
abbrev pub steppers : List (Event × Outcome) → List ℕ
steppers list = flat_map (λ (e : Event × Outcome). option_to_list (stepper e.1)) list

-- The machine was booted so, and has then gone by these events; and the last step of them was one of process p, or there was none
abbrev pub HasLast : (frames trace : ℕ) → List ProgramFile → List Event → Meaning → (p : Option ℕ) → Type 0
HasLast frames trace programs wanted m p = (list : List (Event × Outcome)) × (events list ≡ wanted) × IsReached frames trace programs list m × (p ≡ last_or None (steppers list))

-- The last step of the session's events was one of process p; none, if none of them made a step
abbrev pub IsLastStep : Recorded → (p : Option ℕ) → Type 0
IsLastStep s p = HasLast s.frames s.trace s.programs s.events s.machine p

-- of a session there is one answer
abbrev pub LastStepIsOne : Type 0
LastStepIsOne = (s : Recorded) (p q : Option ℕ) → IsLastStep s p → IsLastStep s q → p ≡ q
