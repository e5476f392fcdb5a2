-- Worked cases of the fault that is told, of what is noted of events, and of what came of the last of them.
use Rattle.std.specs.Prelude.{◌≡◌, [], ◌∷◌, None, Some, pos, refl}
use Rattle.xk_base.specs.declared.access.Cause.{Cause}
use Rattle.kernel_spec.specs.runs.Run.{World, Run, Step_of, Turn, Idle, Ticked}
use Rattle.kernel_spec.specs.steps.Own.{Exited, Faulted}
use Rattle.grade_submissions.specs.Pipes.{none_made}
use Rattle.grade_submissions.specs.Plays.{fault_after, fault_behind, nothing_noted, noted_with, last_came}

-- the first fault is told, and another one of another process isn't
the_first : (cause : Cause) → fault_after None 7 (Step_of 3 (Faulted cause)) ≡ Some 7
the_first cause = refl

a_later_one : (cause : Cause) → fault_after (Some 7) 9 (Step_of 3 (Faulted cause)) ≡ Some 7
a_later_one cause = refl

-- but that of process 1 is
of_process_1 : (cause : Cause) → fault_after (Some 7) 9 (Step_of 1 (Faulted cause)) ≡ Some 9
of_process_1 cause = refl

-- an exit is no fault, nor is an instruction that is done
an_exit : fault_after None 7 (Step_of 1 (Exited (pos 0))) ≡ None
an_exit = refl

no_event : fault_behind (Some 7) 9 None ≡ Some 7
no_event = refl

nobody_runs : fault_behind (Some 7) 9 (Some Idle) ≡ Some 7
nobody_runs = refl

-- ---- what is noted

-- of a Run that was a fault, behind seven other events: its place is 7, and the next one's 8
seventh : (w t : World) (cause : Cause) → (noted_with w t (Step_of 3 (Faulted cause)) (record { notes = []; fault = None; events = 7; pipes = none_made })).fault ≡ Some 7
seventh w t cause = refl

next : (w t : World) → (noted_with w t Ticked (record { notes = []; fault = Some 7; events = 8; pipes = none_made })) ≡ record { notes = []; fault = Some 7; events = 9; pipes = none_made }
next w t = refl

first_event : (w t : World) (cause : Cause) → (noted_with w t (Step_of 1 (Faulted cause)) nothing_noted).fault ≡ Some 0
first_event w t cause = refl

-- ---- the last event

came_last : last_came ((Run, Turn 2) ∷ (Run, Idle) ∷ []) ≡ Some Idle
came_last = refl

came_of_none : last_came [] ≡ None
came_of_none = refl
