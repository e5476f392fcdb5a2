-- The events of a run that was recorded: which is at which place, which runs begin so, and how they are kept.
use Rattle.std.specs.Prelude.{◌≡◌, Bool, true, false, nat_eq, ℕ, ◌-◌, ◌≤◌, ◌^◌, List, [], ◌∷◌, ◌++◌, length, replicate, slice_get, unwrap_or}
use Rattle.kernel_spec.specs.runs.Run.{Event, Run, Tick, Key, Send}
use Rattle.xv_machine.specs.Events.{event_of}
use Rattle.recordings.specs.declared.recording.RecordingError.{RecordingError}
use Rattle.recordings.specs.declared.recording.RecordingError.TheVariants.{TooLong, Memory}
use Rattle.recordings.specs.declared.recording.Stretch.{Stretch}

-- the event at a place among these; a Send if there are fewer
abbrev pub event_among : List Event → (place : ℕ) → Event
event_among list place = unwrap_or (slice_get list place) Send

-- two events are the same
abbrev pub is_same : Event → Event → Bool
is_same Run Run = true
is_same Tick Tick = true
is_same (Key byte) (Key another) = nat_eq byte another
is_same Send Send = true
is_same _ _ = false

-- A record begins with these events: it has them, and then the rest
abbrev pub Begins : (recorded events : List Event) → Type 0
Begins recorded events = (rest : List Event) × (recorded ≡ events ++ rest)

-- These events can't be had by their places: there are too many, or the host has too little memory
abbrev pub IsUnfit : RecordingError → List Event → Type 0
IsUnfit TooLong events = 2 ^ 64 ≤ length events
IsUnfit Memory events = Unit {0}

-- ---- how they are kept: as stretches of equal ones, each with the place after its last. Only this crate's private functions speak of these

-- the events of stretches, the first of which begins at this place
abbrev pub events_from : (begin : ℕ) → List Stretch → List Event
events_from begin [] = []
events_from begin (s ∷ rest) = replicate (s.end - begin) (event_of s.event) ++ events_from s.end rest

-- the place after the last of them
abbrev pub end_of : (begin : ℕ) → List Stretch → ℕ
end_of begin [] = begin
end_of begin (s ∷ rest) = end_of s.end rest

-- none of them ends before it begins
abbrev pub AreInOrder : (begin : ℕ) → List Stretch → Type 0
AreInOrder begin [] = Unit {0}
AreInOrder begin (s ∷ rest) = (begin ≤ s.end) × AreInOrder s.end rest
