-- Worked cases of the first events of a record, and of what an exit status says.
use Rattle.std.proofs.Common.{◌≡◌, List, [], ◌∷◌, map, None, Some, Ok, arith, pos, refl}
use Rattle.std.specs.Prelude.{negsuc}
use Rattle.kernel_spec.specs.runs.Run.{Event}
use Rattle.kernel_spec.specs.runs.Run as runs
use Rattle.xv_live.specs.Plays.{events_of_lines}
use Rattle.xv_record.specs.declared.line.Line.TheVariants as line
use Rattle.recorded_runs.specs.Cuts.{HasSoMany, first_of}
use Rattle.recorded_runs.specs.Replays.{status_of}
use Rattle.recorded_runs.specs.declared.ending.RecordEnd.TheVariants.{Halted, Over}

-- two Runs, a key and two Sends
abbrev pub five : List Event
five = events_of_lines (line.Run 2 ∷ line.Key 101 ∷ line.Send 2 ∷ [])

-- four events are the first two lines and a part of the third
pub four_events : first_of (Some 4) five ≡ runs.Run ∷ runs.Run ∷ runs.Key 101 ∷ runs.Send ∷ []
four_events = refl

-- one event is a part of the first line, and no event is none
pub one_event : first_of (Some 1) five ≡ runs.Run ∷ []
one_event = refl

pub no_event : first_of (Some 0) five ≡ []
no_event = refl

-- without a number it is the whole record, as with all its events
pub all_events : first_of None five ≡ first_of (Some 5) five
all_events = refl

-- the end of the record is a place in it, and no place lies beyond
pub its_end_is_a_place : HasSoMany (Some 5) five
its_end_is_a_place = omega arith

pub beyond_its_end_is_none : HasSoMany (Some 6) five → ⊥
beyond_its_end_is_none n = absurd (omega (arith, n))

-- a record that is over is no success, and neither is any exit but 0
pub statuses : map status_of (Ok (Halted (pos 0)) ∷ Ok (Halted (pos 7)) ∷ Ok (Halted (negsuc 0)) ∷ Ok Over ∷ []) ≡ 0 ∷ 3 ∷ 3 ∷ 4 ∷ []
statuses = refl
