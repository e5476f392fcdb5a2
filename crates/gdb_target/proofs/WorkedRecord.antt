-- Worked cases: the events of a record, and those of the rounds after it.
use Rattle.std.proofs.Common.{◌≡◌, List, [], ◌∷◌, None, Some, arith, refl}
use Rattle.kernel_spec.specs.runs.Run as runs
use Rattle.xv_live.specs.Plays.{events_of_lines}
use Rattle.xv_record.specs.declared.line.Line.{Line}
use Rattle.xv_record.specs.declared.line.Line.TheVariants.{Run, Tick, Send, Key}
use Rattle.gdb_target.specs.Beginning.{IsPlaceIn}
use Rattle.gdb_target.specs.Plan.{Planned, planned_at, first_events}

-- two Runs, the key a, and a tick; then rounds of three Runs, in the first of which b is typed
abbrev plan : List Line → Planned
plan lines = record { recorded = events_of_lines lines; keys = 98 ∷ []; quantum = 3 }

abbrev short : List Line
short = Run 2 ∷ Key 97 ∷ Tick 1 ∷ []

the_record_is_first : planned_at (plan short) 0 ≡ runs.Run
the_record_is_first = refl

the_last_of_a_line : planned_at (plan short) 1 ≡ runs.Run
the_last_of_a_line = refl

after_a_line_comes_the_next : planned_at (plan short) 2 ≡ runs.Key 97
after_a_line_comes_the_next = refl

the_last_of_the_record : planned_at (plan short) 3 ≡ runs.Tick
the_last_of_the_record = refl

after_the_record_the_first_round_begins : planned_at (plan short) 4 ≡ runs.Key 98
after_the_record_the_first_round_begins = refl

and_goes_on : planned_at (plan short) 5 ≡ runs.Run
and_goes_on = refl

its_tick_comes_after_its_runs : planned_at (plan short) 8 ≡ runs.Tick
its_tick_comes_after_its_runs = refl

a_record_of_no_event : planned_at (plan []) 0 ≡ runs.Key 98
a_record_of_no_event = refl

lines_of_no_event_have_no_place : planned_at (plan (Run 0 ∷ Send 1 ∷ Tick 0 ∷ [])) 0 ≡ runs.Send
lines_of_no_event_have_no_place = refl

and_the_rounds_follow : planned_at (plan (Run 0 ∷ Send 1 ∷ Tick 0 ∷ [])) 1 ≡ runs.Key 98
and_the_rounds_follow = refl

the_first_five_events : first_events (plan short) 5 ≡ runs.Run ∷ (runs.Run ∷ (runs.Key 97 ∷ (runs.Tick ∷ (runs.Key 98 ∷ []))))
the_first_five_events = refl

gdb_begins_at_the_end : IsPlaceIn 4 None 4
gdb_begins_at_the_end = refl

at_the_boot_if_no_event_is_asked_for : IsPlaceIn 4 (Some 0) 0
at_the_boot_if_no_event_is_asked_for = (refl, omega arith)
