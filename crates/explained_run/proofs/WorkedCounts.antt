-- Worked cases of the table.
use Rattle.std.specs.Prelude.{◌≡◌, Bool, true, false, pos, negsuc, List, [], ◌∷◌, Option, None, Some, Vec, refl}
use Rattle.std.specs.declared.alloc.Global.{Global}
use Rattle.kernel_calls.specs.declared.call.KernelCall.{KernelCall}
use Rattle.kernel_calls.specs.declared.call.KernelCall.TheVariants.{Fork, Kill}
use Rattle.kernel_spec.specs.runs.Run.{World, Step_of, Turn, Sent}
use Rattle.kernel_spec.specs.steps.Own.{Stepped, Called, Exited}
use Rattle.xv_session.specs.declared.names.Named.{Named}
use Rattle.explained_run.specs.Counts.{added, counted, done_by, done_if, program_of, row, tallied}
use Rattle.explained_run.specs.declared.choice.Choice.{Choice}

abbrev chosen : (calls : Option (Vec KernelCall Global)) → (failed : Bool) → Choice
chosen calls failed = record { lines = false; pid = None; program = None; calls = calls; failed = failed; numbers = false; shown = 32 }

abbrev all : Choice
all = chosen None false

-- a call that answers -1 has failed, and exit is a call unless the process was killed
a_failed_call : done_by all 3 (Some 1) false (Step_of 3 (Called (pos 6) (negsuc 0))) ≡ row 3 (Some 1) 1 1 0
a_failed_call = refl

a_call : done_by all 3 (Some 1) false (Step_of 3 (Called (pos 5) (pos 8))) ≡ row 3 (Some 1) 1 0 0
a_call = refl

an_exit : done_by all 3 (Some 1) false (Step_of 3 (Exited (pos 0))) ≡ row 3 (Some 1) 1 0 0
an_exit = refl

a_kill : done_by all 3 (Some 1) true (Step_of 3 (Exited (negsuc 0))) ≡ row 3 (Some 1) 0 0 0
a_kill = refl

an_instruction : done_by all 3 None false (Step_of 3 Stepped) ≡ row 3 None 0 0 1
an_instruction = refl

a_turn : done_by all 3 None false (Turn 3) ≡ row 3 None 0 0 0
a_turn = refl

-- if calls are asked for that have failed, no other counts; if calls are asked for, no other counts
no_failure : done_by (chosen None true) 3 (Some 1) false (Step_of 3 (Called (pos 5) (pos 8))) ≡ row 3 (Some 1) 0 0 0
no_failure = refl

a_failure : done_by (chosen None true) 3 (Some 1) false (Step_of 3 (Called (pos 6) (negsuc 0))) ≡ row 3 (Some 1) 1 1 0
a_failure = refl

another_call : (calls : Vec KernelCall Global) → calls.items ≡ Fork ∷ Kill ∷ []
    → done_by (chosen (Some calls) false) 3 (Some 1) false (Step_of 3 (Called (pos 5) (negsuc 0))) ≡ row 3 (Some 1) 0 0 0
another_call calls are = rw are refl

the_call : (calls : Vec KernelCall Global) → calls.items ≡ Fork ∷ Kill ∷ []
    → done_by (chosen (Some calls) false) 3 (Some 1) false (Step_of 3 (Called (pos 6) (negsuc 0))) ≡ row 3 (Some 1) 1 1 0
the_call calls are = rw are refl

-- a process that isn't asked for has no row
another_process : counted (record { lines = false; pid = Some 2; program = None; calls = None; failed = false; numbers = false; shown = 32 }) [] (row 3 (Some 1) 1 1 0) ≡ []
another_process = refl

the_process : counted (record { lines = false; pid = Some 3; program = None; calls = None; failed = false; numbers = false; shown = 32 }) [] (row 3 (Some 1) 1 1 0) ≡ row 3 (Some 1) 1 1 0 ∷ []
the_process = refl

-- the first of a process makes a row behind the others; more of it is added there, and its program is the last one
first_of_it : added (row 1 (Some 0) 2 0 40 ∷ []) (row 3 (Some 1) 0 0 7) ≡ row 1 (Some 0) 2 0 40 ∷ row 3 (Some 1) 0 0 7 ∷ []
first_of_it = refl

more_of_it : added (row 1 (Some 0) 2 0 40 ∷ row 3 (Some 1) 0 0 7 ∷ []) (row 1 (Some 2) 1 1 0) ≡ row 1 (Some 2) 3 1 40 ∷ row 3 (Some 1) 0 0 7 ∷ []
more_of_it = refl

-- a program that isn't known takes no known one away
unknown : added (row 1 (Some 0) 2 0 40 ∷ []) (row 1 None 0 0 1) ≡ row 1 (Some 0) 2 0 41 ∷ []
unknown = refl

-- ---- of a run's events

-- of process 3, which runs: an instruction counts; a turn and a sent byte don't, nor does anything if nobody runs
a_step_counts : (w : World) (names : List Named) → done_if all w names names (Some 3) (Step_of 3 Stepped) ≡ row 3 (program_of 3 names names) 0 0 1 ∷ []
a_step_counts w names = refl

a_send_counts_nothing : (w : World) (names : List Named) → done_if all w names names (Some 3) (Sent None) ≡ []
a_send_counts_nothing w names = refl

nobody_does_anything : (w : World) (names : List Named) → done_if all w names names None (Step_of 3 Stepped) ≡ []
nobody_does_anything w names = refl

-- a call in which the program has changed is one of the new program; a process that is gone keeps the one that it ran
the_new_program : program_of 3 (record { pid = 3; place = 1 } ∷ []) (record { pid = 3; place = 4 } ∷ []) ≡ Some 4
the_new_program = refl

the_last_program : program_of 3 (record { pid = 3; place = 1 } ∷ []) [] ≡ Some 1
the_last_program = refl

-- two instructions of process 3, one of process 1 between them, and then a call
in_turn : tallied all [] (row 3 (Some 1) 0 0 1 ∷ row 1 (Some 0) 0 0 1 ∷ row 3 (Some 1) 0 0 1 ∷ row 3 (Some 1) 1 1 0 ∷ []) ≡ row 3 (Some 1) 1 1 2 ∷ row 1 (Some 0) 0 0 1 ∷ []
in_turn = refl
