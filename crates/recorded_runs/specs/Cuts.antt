-- The first events of a record.
use Rattle.std.specs.Prelude.{◌≡◌, ℕ, ◌≤◌, ◌<◌, List, length, take, Option, None, Some, ⊤}
use Rattle.kernel_spec.specs.runs.Run.{Event}
use Rattle.xv_live.specs.Plays.{events_of_lines}
use Rattle.xv_record.specs.Reading.{IsTaken}
use Rattle.xv_record.specs.Told.{told}
use Rattle.xv_record.specs.declared.file.Record.{Record}
use Rattle.xv_record.specs.declared.reading.Ending.{Ending}
use Rattle.recorded_runs.specs.declared.cutting.CutError.{CutError}
use Rattle.recorded_runs.specs.declared.cutting.CutError.TheVariants.{Memory, Beyond}

-- some text has the record, and ends so
abbrev pub IsTakenFromText : Record → Ending → Type 0
IsTakenFromText r ending = (text : List ℕ) × IsTaken text (told r) ending

abbrev pub IsOfText : Record → Type 0
IsOfText r = (ending : Ending) × IsTakenFromText r ending

-- the events that a record stands for
abbrev pub events_in : Record → List Event
events_in r = events_of_lines r.events.items

-- the first events, so many; all of them if no number is given
abbrev pub first_of : (at : Option ℕ) → List Event → List Event
first_of None events = events
first_of (Some n) events = take n events

-- there are so many
abbrev pub HasSoMany : (at : Option ℕ) → List Event → Type 0
HasSoMany None events = ⊤
HasSoMany (Some n) events = n ≤ length events

-- A record of the same machine, with the first events of the one that was cut
pub record IsCutOf (at : Option ℕ) (whole part : Record) : Type 0 where
  pub frames : part.frames ≡ whole.frames
  pub programs : part.programs ≡ whole.programs
  pub events : events_in part ≡ first_of at (events_in whole)
  pub enough : HasSoMany at (events_in whole)

-- a cut is refused, but for memory, only if the record has fewer events, and so many as are told
abbrev pub IsCutRefused : (at : Option ℕ) → Record → CutError → Type 0
IsCutRefused at whole Memory = ⊤
IsCutRefused None whole (Beyond n) = ⊥
IsCutRefused (Some most) whole (Beyond n) = (n ≡ length (events_in whole)) × (n < most)

-- the first events of a record that some text has
abbrev pub IsCutOfText : (at : Option ℕ) → (part : Record) → Type 0
IsCutOfText at part = (whole : Record) × IsOfText whole × IsCutOf at whole part
