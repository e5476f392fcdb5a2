-- The last Run before here that is what is waited for.
use Rattle.std.specs.Prelude.{◌≡◌, ◌&&◌, ◌+◌, ◌-◌, ℕ, Bool, true, false, length, List, [], ◌∷◌, ◌++◌, take, Option, None, Some, option_map}
use Rattle.kernel_spec.specs.runs.Run.{Event, Run, Outcome}
use Rattle.xv_machine.specs.Meaning.{Meaning}
use Rattle.xv_machine.specs.Reached.{IsEvent}
use Rattle.xv_session.specs.Answers.{WentBack}
use Rattle.xv_session.specs.LastFound as found
use Rattle.xv_session.specs.Recorded.{Recorded, IsPlayed}
use Rattle.xv_debug.specs.motion.Aims.{meets}
use Rattle.xv_debug.specs.declared.motion.aiming.Aim.{Aim}

abbrev pub is_run : Event → Bool
is_run Run = true
is_run _ = false

-- An event by which the run came to a place is a Run that is the aim, or else what was found before stays
abbrev pub later : (hit : Bool) → (place : ℕ) → (found : Option ℕ) → Option ℕ
later true place found = Some place
later false place found = found

-- An event led from the one machine to the other: it is a Run that is the aim, or isn't
abbrev pub LookedAt : Aim → Event → (old new : Meaning) → (hit : Bool) → Type 0
LookedAt aim e old new hit = (o : Outcome) × IsEvent old e o new × (hit ≡ is_run e && meets aim old o new)

-- These events did, from a place of the run on. The last place to which a Run led that is the aim is told, or what was found before
abbrev pub Looked : Aim → List Event → (place : ℕ) → (found : Option ℕ) → (old new : Meaning) → (answer : Option ℕ) → Type 0
Looked aim [] place found old new answer = (new ≡ old) × (answer ≡ found)
Looked aim (e ∷ es) place found old new answer =
    (mid : Meaning) × (hit : Bool) × LookedAt aim e old mid hit × Looked aim es (place + 1) (later hit (place + 1) found) mid new answer

-- The events of a session from a place on were looked at, up to another place: they led a machine that was played up to the first to this one
pub record LookedTo (aim : Aim) (begin place : ℕ) (s : Recorded) (to : Meaning) (answer : Option ℕ) : Type 0 where
  pub from : Meaning
  pub list : List Event
  pub played : IsPlayed s.frames s.trace s.programs (take begin s.events) from
  pub those : take begin s.events ++ list ≡ take place s.events
  pub looked : Looked aim list begin None from to answer

-- all but the last
abbrev pub LooksFrom : Aim → (begin : ℕ) → Recorded → (answer : Option ℕ) → Type 0
LooksFrom aim begin s answer = (to : Meaning) × LookedTo aim begin (length s.events - 1) s to answer

-- It is the last place before here to which a Run led that is the aim; none is told only if all events were looked at
abbrev pub IsLast : Aim → Recorded → (answer : Option ℕ) → Type 0
IsLast aim s answer = found.IsLast (λ begin old new told. LooksFrom aim begin old told) s s answer

-- It has gone back there; if there is none, it stays
abbrev pub EndsAt : (answer : Option ℕ) → Recorded → Recorded → Type 0
EndsAt None old new = new ≡ old
EndsAt (Some place) old new = WentBack place old new

-- Of the events so many were taken back
abbrev pub GoesBackUntil : Aim → (taken : Option ℕ) → (old new : Recorded) → Type 0
GoesBackUntil aim taken old new = (answer : Option ℕ) × IsLast aim old answer × EndsAt answer old new × (taken ≡ option_map (λ place. length old.events - place) answer)
