-- What the table tells of a process: how many calls and instructions it has done. Of calls those alone count that are asked for.
use Rattle.std.specs.Prelude.{ℕ, ◌+◌, ◌^◌, ◌-◌, ℤ, pos, negsuc, Bool, true, false, if◌then◌else◌, nat_eq, min, List, [], ◌∷◌, Option, None, Some}
use Rattle.std.specs.Option.{option_or}
use Rattle.kcall_core.specs.Observers.{process_at}
use Rattle.kernel_spec.specs.runs.Run.{World, Outcome, Step_of}
use Rattle.kernel_spec.specs.steps.Own.{Answer, Stepped, Called, Blocked, Exited, Faulted}
use Rattle.xv_session.specs.Names.{place_in}
use Rattle.xv_session.specs.declared.names.Named.{Named}
use Rattle.explained_run.specs.Chosen.{is_process, shows_answer, shows_unfailed}
use Rattle.explained_run.specs.Seen.{is_marked}
use Rattle.explained_run.specs.declared.choice.Choice.{Choice}
use Rattle.explained_run.specs.declared.counts.Count.{Count}

-- ---- what is done by one step

-- process p, whose program is at this place, has done so many calls, of which so many have failed, and so many instructions
abbrev pub row : (p : ℕ) → (place : Option ℕ) → (calls failed instructions : ℕ) → Count
row p place calls failed instructions = record { pid = p; program = place; calls = calls; failed = failed; instructions = instructions }

-- a call fails that answers less than 0
abbrev pub failed_of : (value : ℤ) → ℕ
failed_of (pos n) = 0
failed_of (negsuc k) = 1

-- a process ends by the call exit, unless it was killed
abbrev pub exits_of : (marked : Bool) → ℕ
exits_of true = 0
exits_of false = 1

-- a number of calls, if they are asked for
abbrev pub if_asked : (asked : Bool) → (number : ℕ) → ℕ
if_asked true number = number
if_asked false number = 0

abbrev pub called : (p : ℕ) → (place : Option ℕ) → (asked : Bool) → (value : ℤ) → Count
called p place asked value = row p place (if_asked asked 1) (if_asked asked (failed_of value)) 0

-- call 2 is exit
abbrev pub done_by_step : Choice → (p : ℕ) → (place : Option ℕ) → (marked : Bool) → Answer → Count
done_by_step choice p place marked (Called number value) = called p place (shows_answer choice number value) value
done_by_step choice p place marked (Exited status) = row p place (if_asked (shows_unfailed choice (pos 2)) (exits_of marked)) 0 0
done_by_step choice p place marked Stepped = row p place 0 0 1
done_by_step choice p place marked (Blocked number) = row p place 0 0 0
done_by_step choice p place marked (Faulted cause) = row p place 0 0 0

-- what process p has done if this came of its step
abbrev pub done_by : Choice → (p : ℕ) → (place : Option ℕ) → (marked : Bool) → Outcome → Count
done_by choice p place marked (Step_of q answer) = done_by_step choice p place marked answer
done_by choice p place marked _ = row p place 0 0 0

-- ---- what is done in all

-- a sum, 2 ^ 64 - 1 at most
abbrev pub sum_of : ℕ → ℕ → ℕ
sum_of n m = min (n + m) (2 ^ 64 - 1)

-- a row, once its process has done more; its program is the last one that is known
abbrev pub both : (before more : Count) → Count
both before more =
    row before.pid (option_or more.program before.program) (sum_of before.calls more.calls) (sum_of before.failed more.failed) (sum_of before.instructions more.instructions)

-- what a process has done, with more; it may have done nothing before
abbrev pub with_more : Option Count → (more : Count) → Count
with_more None more = more
with_more (Some before) more = both before more

-- the rows, once a process has done more: it has a row of its own, the last one if it had none
abbrev pub added : List Count → (more : Count) → List Count
added [] more = more ∷ []
added (count ∷ counts) more = if nat_eq count.pid more.pid then both count more ∷ counts else count ∷ added counts more

-- the same, if the process is asked for; else they stay
abbrev pub counted : Choice → List Count → (more : Count) → List Count
counted choice counts more = if is_process choice.pid more.pid then added counts more else counts

-- the rows, once all this is done, one after another
abbrev pub tallied : Choice → List Count → (done : List Count) → List Count
tallied choice counts [] = counts
tallied choice counts (more ∷ rest) = tallied choice (counted choice counts more) rest

-- ---- what is done by an event

-- the program of process p: the one that it runs after the event, or that it ran before it, if it is gone
abbrev pub program_of : (p : ℕ) → (names after : List Named) → Option ℕ
program_of p names after = option_or (place_in p after) (place_in p names)

abbrev pub done_if : Choice → World → (names after : List Named) → (current : Option ℕ) → Outcome → List Count
done_if choice w names after None o = []
done_if choice w names after (Some p) (Step_of q answer) = done_by_step choice p (program_of p names after) (is_marked (process_at w p)) answer ∷ []
done_if choice w names after (Some p) _ = []

-- what is done by an event of which this came in a world, and by which the programs of processes go from `names` to `after`: by a step what the process has done that runs; by any other event nothing
abbrev pub done_in : Choice → World → (names after : List Named) → Outcome → List Count
done_in choice w names after o = done_if choice w names after w.turns.current o

-- ---- if there was memory

-- if there was memory for all rows
abbrev pub if_complete : (complete : Bool) → List Count → Option (List Count)
if_complete true counts = Some counts
if_complete false counts = None
