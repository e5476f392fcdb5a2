-- The events of rounds, as in xv_run.
use Rattle.std.specs.Prelude.{ℕ, ◌-◌, ◌*◌, ◌/◌, ◌%◌, nat_lt, if◌then◌else◌, List, [], ◌∷◌, length, drop}
use Rattle.kernel_spec.specs.runs.Run.{Event}
use Rattle.kernel_spec.specs.runs.Rounds.{round}
use Rattle.recordings.specs.Recording.{event_among}

-- the event at a place of rounds, of which as many have a key as there are keys, and these come first. A round with a key has `keyed` events, and each other round `unkeyed`
abbrev pub event_in : (keys : List ℕ) (quantum keyed unkeyed place : ℕ) → Event
event_in keys quantum keyed unkeyed place =
    if nat_lt (place / keyed) (length keys) then event_among (round quantum (drop (place / keyed) keys)) (place % keyed)
    else event_among (round quantum []) ((place - length keys * keyed) % unkeyed)

-- The event at a place of the rounds
abbrev pub event_at : List ℕ → (quantum place : ℕ) → Event
event_at keys quantum place = event_in keys quantum (length (round quantum (0 ∷ []))) (length (round quantum [])) place
