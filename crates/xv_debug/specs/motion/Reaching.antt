-- Events that are sent by the clock, up to the first Run that is what is waited for.
use Rattle.std.specs.Prelude.{◌≡◌, ◌≤◌, ◌<◌, ◌&&◌, ◌||◌, ℕ, length, Bool, true, false, not, List, [], ◌∷◌, ◌++◌, Option}
use Rattle.kernel_spec.specs.runs.Run.{Event, Run, Outcome, Turn, out}
use Rattle.kernel_spec.specs.runs.Rounds.{events}
use Rattle.kernel_spec.specs.views.Words.{is_this}
use Rattle.xv_session.specs.Answers.{IsReason}
use Rattle.xv_session.specs.Recorded.{Recorded, running_of}
use Rattle.xv_session.specs.Steps.{Advances}
use Rattle.xv_session.specs.declared.running.Running.{Running}
use Rattle.debug_words.specs.declared.vocabulary.Mark.{Mark}
use Rattle.xv_debug.specs.motion.Aims.{meets}
use Rattle.xv_debug.specs.motion.Backwards.{is_run}
use Rattle.xv_debug.specs.motion.Clock.{EndsQuietIf, IsNext}
use Rattle.xv_debug.specs.motion.Effects.{Adds}
use Rattle.xv_debug.specs.motion.Marks.{meets_marks}
use Rattle.xv_debug.specs.motion.Plan.{Planned}
use Rattle.xv_debug.specs.motion.Sent.{last_outcome}
use Rattle.xv_debug.specs.motion.Shown.{KeepsShown}
use Rattle.xv_debug.specs.declared.motion.aiming.Aim.{Aim}
use Rattle.xv_debug.specs.declared.motion.output.Output.{Output}
use Rattle.xv_debug.specs.declared.motion.journey.Stop.{Stop}
use Rattle.xv_debug.specs.declared.motion.journey.Stop.TheVariants.{Done, Met, Broken, Refused}

-- whether an event of which this came, and which led from the one to the other, is what is waited for
abbrev pub Test : Type 0
Test = Running → Outcome → Running → Bool

-- it gives the turn to this process
abbrev pub is_turn_of : Option ℕ → Outcome → Bool
is_turn_of p (Turn q) = is_this q p
is_turn_of p _ = false

-- An event of which this came led from the one to the other, and is the aim, or meets a mark. A turn of the process that ran at first is neither: it stands there already
abbrev pub meets_one : (ran : Option ℕ) → Aim → List Mark → Running → Outcome → Running → Bool
meets_one ran aim marks a o b = not (is_turn_of ran o) && (meets aim a.machine o b.machine || meets_marks marks a o b)

-- and so of a way that begins here
abbrev pub met_from : Recorded → Aim → List Mark → Test
met_from s aim marks = meets_one s.machine.world.turns.current aim marks

-- If it was a Run, it wasn't what is waited for
abbrev pub Passes : Test → Running → Event → Outcome → Running → Type 0
Passes test a e o b = is_run e ≡ true → test a o b ≡ false

-- By the plan, of a run that has got these events so far, these were sent, and these came of them; none is what is waited for
abbrev pub NoneMet : Planned → Test → (so_far : List Event) → List (Event × Outcome) → Running → Running → Type 0
NoneMet plan test so_far [] old new = new ≡ old
NoneMet plan test so_far (e ∷ es) old new =
    (mid : Running) × Advances old e.0 e.1 mid × IsNext plan so_far old.machine.world e.0 × Passes test old e.0 e.1 mid × NoneMet plan test (so_far ++ e.0 ∷ []) es mid new

-- Such events were sent, and then, as the plan wants it, a Run that is what is waited for
pub record LastMet (plan : Planned) (test : Test) (so_far : List Event) (list : List (Event × Outcome)) (old new : Running) : Type 0 where
  pub before : List (Event × Outcome)
  pub mid : Running
  pub outcome : Outcome
  pub none : NoneMet plan test so_far before old mid
  pub next : IsNext plan (so_far ++ events before) mid.machine.world Run
  pub last : Advances mid Run outcome new
  pub met : test mid outcome new ≡ true
  pub all : list ≡ before ++ (Run, outcome) ∷ []

abbrev pub ReachesBy : (met : Bool) → Planned → Test → (so_far : List Event) → List (Event × Outcome) → Running → Running → Type 0
ReachesBy true plan test so_far list old new = LastMet plan test so_far list old new
ReachesBy false plan test so_far list old new = NoneMet plan test so_far list old new

-- So many events were sent, by the plan of the run: the first Run that is what is waited for was the last, or none was. This came of the last, and what the console showed of all is kept
pub record Goes (plan : Planned) (test : Test) (met : Bool) (sent : ℕ) (last : Option Outcome) (old new : Recorded) (had has : Output) : Type 0 where
  pub list : List (Event × Outcome)
  pub adds : Adds (events list) old new
  pub count : length list ≡ sent
  pub reaches : ReachesBy met plan test old.events list (running_of old) (running_of new)
  pub last_is : last ≡ last_outcome list
  pub shown : KeepsShown (out list) had has

abbrev pub is_met : Stop → Bool
is_met Met = true
is_met _ = false

-- It stopped at its end, since it was broken off, or since the session keeps no more events
abbrev pub IsRefusal : Stop → Type 0
IsRefusal Done = Unit {0}
IsRefusal Broken = Unit {0}
IsRefusal (Refused error) = Unit {0}
IsRefusal _ = ⊥

-- If it stopped since the session took no more events, it was for this reason
abbrev pub IsRefusedBy : Stop → Recorded → Type 0
IsRefusedBy (Refused error) s = IsReason error (length s.events)
IsRefusedBy _ s = Unit {0}

-- Events were sent by the plan, up to the first Run that is what is waited for; or fewer than that, where the record has no event, nobody may go on, none waits for a tick and no key is left, it was broken off, which may happen, the session keeps no more events, or `most` were sent
pub record Reaches (may_end : Bool) (plan : Planned) (test : Test) (most : ℕ) (stop : Stop) (sent : ℕ) (last : Option Outcome) (old new : Recorded) (had has : Output) : Type 0 where
  pub goes : Goes plan test (is_met stop) sent last old new had has
  pub within : sent ≤ most
  pub all : stop ≡ Done → sent ≡ most
  pub broken : stop ≡ Broken → may_end ≡ true
  pub fewer : stop ≡ Broken → sent < most
  pub rests : EndsQuietIf plan new.events stop new.machine.world
  pub reason : IsRefusedBy stop new
