-- The events of a session, as they are shown.
use Rattle.std.specs.Prelude.{◌≡◌, ◌⊎◌, ℕ, zero, suc, ◌+◌, ◌-◌, ◌≤◌, nat_lt, if◌then◌else◌, List, [], ◌∷◌, ◌++◌, take, drop, length, replicate, codes, decimal, Option, None, Some}
use Rattle.kernel_spec.specs.runs.Run.{Event, Run, Tick, Key, Send}
use Rattle.xv_session.specs.Answers.{AreEqualFrom}
use Rattle.xv_session.specs.Recorded.{Recorded}
use Rattle.debug_words.specs.Texts.{at_right, grouped, many, quoted}

abbrev pub event_text : Event → List ℕ
event_text Run = codes "Run"
event_text Tick = codes "Tick"
event_text (Key byte) = codes "Key " ++ quoted (byte ∷ [])
event_text Send = codes "Send"

-- equal events: the place of the first, how many they are, and which
abbrev pub equal_text : (place count : ℕ) → Event → List ℕ
equal_text place count e = at_right 15 (grouped place) ++ codes "  " ++ at_right 11 (grouped count) ++ codes " " ++ event_text e ++ codes "\n"

-- the place from which on there are more, if there are
abbrev pub more_events : (all place : ℕ) → List ℕ
more_events all place = if nat_lt place all then codes "there are more: events " ++ decimal place ++ codes " goes on\n" else []

-- so many events from a place on are this one
abbrev pub AreAlike : List Event → (place : ℕ) → Event → (count : ℕ) → Type 0
AreAlike list place e count = take count (drop place list) ≡ replicate count e

-- Lines of equal events from a place on, one behind another, so many at most; and whether there are more
abbrev pub AreEvents : List Event → (lines place : ℕ) → List ℕ → Type 0
AreEvents list zero place text = text ≡ more_events (length list) place
AreEvents list (suc lines) place text =
    ((length list ≤ place) × (text ≡ []))
    ⊎ ((e : Event) × (count : ℕ) × (rest : List ℕ) × AreEqualFrom list place (Some (e, count)) × AreEvents list lines (place + count) rest × (text ≡ equal_text place count e ++ rest))

abbrev pub events_head : (all : ℕ) → List ℕ
events_head all = many all (codes "event") ++ codes " since the boot; 0 is the place of the first\n  from place on    so many\n"

-- the place that is asked for; or that of the last 1,033 events, as many as a round has
abbrev pub first_place : (all : ℕ) → Option ℕ → ℕ
first_place all None = all - 1033
first_place all (Some place) = place

-- how many events there are, and those from a place on
abbrev pub IsEventsText : Recorded → Option ℕ → List ℕ → Type 0
IsEventsText s from text = (rest : List ℕ) × AreEvents s.events 20 (first_place (length s.events) from) rest × (text ≡ events_head (length s.events) ++ rest)

-- what is written of a trace without notes
abbrev pub no_notes : List ℕ
no_notes = codes "the trace has no notes: --trace N lets it keep the last N\n"
