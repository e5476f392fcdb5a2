-- Which events the machine gets: those of a record, if one is played, and then rounds, as in xv_run.
use Rattle.std.specs.Prelude.{◌≡◌, ℕ, zero, suc, ◌+◌, ◌-◌, ◌<◌, min, nat_lt, if◌then◌else◌, List, [], ◌∷◌, ◌++◌, length, take, replicate}
use Rattle.kernel_spec.specs.runs.Run.{Event}
use Rattle.gdb_target.specs.Rounds.{event_at}
use Rattle.recordings.specs.Recording.{event_among}

-- the events of a record, none if none is played; the keys of the rounds after them, and the Runs in each round
pub record Planned : Type 0 where
  pub recorded : List Event
  pub keys : List ℕ
  pub quantum : ℕ

-- The event at a place of the run: the record has one for each of the first places, and the rounds begin after the last of them
abbrev pub planned_at : Planned → (place : ℕ) → Event
planned_at plan place =
    if nat_lt place (length plan.recorded) then event_among plan.recorded place
    else event_at plan.keys plan.quantum (place - length plan.recorded)

-- the first events of the run, so many
abbrev pub first_events : Planned → (count : ℕ) → List Event
first_events plan zero = []
first_events plan (suc n) = first_events plan n ++ planned_at plan n ∷ []

-- The first events of a run's first events are its first events
abbrev pub FirstOfFirst : Type 0
FirstOfFirst = (plan : Planned) (count place : ℕ) → take place (first_events plan count) ≡ first_events plan (min place count)

-- Where so many events from a place on are equal, the run up to their end is the run up to the place, and these
abbrev pub MoreOfOneKind : Type 0
MoreOfOneKind =
    (plan : Planned) (place count : ℕ) (e : Event) → ((k : ℕ) → k < count → planned_at plan (place + k) ≡ e)
    → first_events plan (place + count) ≡ first_events plan place ++ replicate count e

-- As many of the first events as the record has are the record's
abbrev pub RecordIsFirst : Type 0
RecordIsFirst = (plan : Planned) → first_events plan (length plan.recorded) ≡ plan.recorded

-- A run without a record gets the rounds' events from the first on
abbrev pub RoundsAlone : Type 0
RoundsAlone = (plan : Planned) (place : ℕ) → plan.recorded ≡ [] → planned_at plan place ≡ event_at plan.keys plan.quantum place
