-- What a machine that is driven in rounds goes through.
use Rattle.std.specs.Prelude.{◌≡◌, ◌≢◌, ◌⊎◌, ℕ, ◌+◌, ◌<◌, Bool, false, ◌||◌, List, [], ◌∷◌, ◌++◌, flat_map, length, replicate, drop, nat_lt, if◌then◌else◌, Option, None, Some, IfSome, is_some, ⊤}
use Rattle.std.specs.Io.KnownBytes.{Appends, Consumes}
use Rattle.xk_base.specs.declared.limits.TheConstants.{SEND_BYTES}
use Rattle.circular_buffer.specs.Buffer.{keep_last}
use Rattle.kernel_spec.specs.runs.Run as runs
use Rattle.kernel_spec.specs.steps.Own.{Stepped}
use Rattle.kernel_spec.specs.runs.Run.{Event, Run, Tick, Key, Send, Outcome, Step_of, Sent, bytes_out, out}
use Rattle.kernel_spec.specs.runs.Rounds.{events, halts, round, AreRounds, Planned, StopsBeforeRound, EndsInRound}
use Rattle.kernel_spec.specs.waking.Wakes.{IsPromised}
use Rattle.kernel_spec.specs.views.Words.{or_zero}
use Rattle.xv_machine.specs.Devices.{Source, Asked, Sink, Given, Calls, took, failed}
use Rattle.xv_machine.specs.declared.driving.RunPlan.{RunPlan}
use Rattle.xv_machine.specs.declared.driving.DriveEnd.{DriveEnd}
use Rattle.xv_machine.specs.declared.driving.DriveEnd.TheVariants.{Halted, RoundsOver}
use Rattle.xv_machine.specs.declared.driving.DriveError.{DriveError}
use Rattle.xv_machine.specs.declared.driving.DriveError.TheVariants.{Read, Write}
use Rattle.xv_machine.specs.Meaning.{Meaning}
use Rattle.xv_machine.specs.Notes.{notes_of}
use Rattle.xv_machine.specs.Sound.{IsSoundMachine}

-- The machine goes from old to new by these events, which give these outcomes; the trace keeps a note of each, behind those that it had
pub record Goes (old : Meaning) (list : List (Event × Outcome)) (new : Meaning) : Type 0 where
  pub run : IsPromised old.world list new.world
  pub notes : new.notes ≡ keep_last old.room (old.notes ++ notes_of list)
  pub room : new.room ≡ old.room
  pub frames : new.frames.count ≡ old.frames.count
  pub sound : IsSoundMachine new

-- ---- one Run after another

-- process p did an instruction
abbrev pub done_by : (p : ℕ) → Event × Outcome
done_by p = (Run, Step_of p Stepped)

-- Runs that were sent one after another, `most` at most: each is a done instruction of process p; or something else came of the last one; or nothing may run, or the machine is halted, and all of them were sent
abbrev pub AreRuns : (most p : ℕ) → List (Event × Outcome) → Type 0
AreRuns most p list =
    (list ≡ replicate most (done_by p))
    ⊎ ((made : ℕ) × (o : Outcome) × (list ≡ replicate made (done_by p) ++ (Run, o) ∷ []) × (made < most) × (o ≢ Step_of p Stepped) × (o ≢ runs.Idle) × (o ≢ runs.Halted))
    ⊎ ((o : Outcome) × (list ≡ replicate most (Run, o)) × ((o ≡ runs.Idle) ⊎ (o ≡ runs.Halted)))

-- The machine was sent so many Runs, `most` at most
pub record Ran (most sent : ℕ) (old new : Meaning) : Type 0 where
  pub list : List (Event × Outcome)
  pub goes : Goes old list new
  pub runs_are : AreRuns most (or_zero old.world.turns.current) list
  pub count : length list ≡ sent

-- ---- one Send after another

-- So many Sends were sent, one after another: the last of them sent this byte, or none, and no other sent one
pub record SendsMade (sent : ℕ) (byte : Option ℕ) (old new : Meaning) : Type 0 where
  pub idle : ℕ
  pub goes : Goes old (replicate idle (Send, Sent None) ++ (Send, Sent byte) ∷ []) new
  pub count : sent ≡ idle + 1

-- ---- over a tick

-- a turn was given, or no process may run
abbrev pub GivesTurn : Outcome → Type 0
GivesTurn o = (o ≡ runs.Idle) ⊎ ((p : ℕ) × (o ≡ runs.Turn p))

-- The clock counted a tick, and no byte waited to be sent, as often as a round asks; then the next turn was given
pub record PassesTick (old new : Meaning) : Type 0 where
  pub between : Meaning
  pub ends : Goes old ((Tick, runs.Ticked) ∷ replicate SEND_BYTES (Send, Sent None)) between
  pub goes_on : between.world.turns.halted ≡ None
  pub outcome : Outcome
  pub gives : GivesTurn outcome
  pub begins : Goes between ((Run, outcome) ∷ []) new

-- ---- rounds

abbrev pub is_halted : Meaning → Bool
is_halted m = is_some m.world.turns.halted

-- the keys among events, in order
abbrev pub key_in : Event → List ℕ
key_in Run = []
key_in Tick = []
key_in (Key byte) = byte ∷ []
key_in Send = []

abbrev pub keys_in : List Event → List ℕ
keys_in list = flat_map key_in list

-- the calls that write these bytes: one, and none where there are none
abbrev pub call_of : List ℕ → List Given
call_of [] = []
call_of (b ∷ bytes) = took (b ∷ bytes) ∷ []

-- the calls that write what these events show: one for each event that shows bytes
abbrev pub calls_of : List (Event × Outcome) → List Given
calls_of list = flat_map (λ s. call_of (bytes_out s.1)) list

-- what these events show was written, by these calls and no other
pub record Wrote (before after : Sink) (list : List (Event × Outcome)) : Type 0 where
  pub bytes : Appends before.held after.held (out list)
  pub calls : Calls before.calls after.calls (calls_of list)

-- each key that was typed took one call of the source; and where fewer keys were typed than rounds began, one more call found that none is left
abbrev pub AskedFor : (before after : Option ℕ) → (keys rounds : ℕ) → Type 0
AskedFor before after keys rounds = Asked before after (if nat_lt keys rounds then keys + 1 else keys)

-- these are the keys that are left of a source, where that is known
abbrev pub AreKeysOf : Source → List ℕ → Type 0
AreKeysOf source keys = IfSome source.left (λ bytes. keys ≡ bytes)

-- A drive to its end: whole rounds of the plan, all that may begin; what they show was written, and the keys that were typed were read
pub record Done (plan : RunPlan) (source source_after : Source) (old new : Meaning) (sink sink_after : Sink) : Type 0 where
  pub list : List (Event × Outcome)
  pub goes : Goes old list new
  -- the keys that are left at first
  pub keys : List ℕ
  pub known : AreKeysOf source keys
  pub planned : Planned plan.rounds plan.quantum keys (is_halted old) list
  pub written : Wrote sink sink_after list
  pub typed : Consumes source.left source_after.left (keys_in (events list))
  -- so many rounds began: the plan's count
  pub asked : AskedFor source.asked source_after.asked (length (keys_in (events list))) planned.0

-- A drive that a failed read ended: the whole rounds before, what they show was written
pub record StoppedByRead (plan : RunPlan) (source source_after : Source) (old new : Meaning) (sink sink_after : Sink) : Type 0 where
  pub list : List (Event × Outcome)
  pub goes : Goes old list new
  pub keys : List ℕ
  pub known : AreKeysOf source keys
  pub rounds : StopsBeforeRound plan.rounds plan.quantum keys (is_halted old) list
  -- each of these rounds had a key: behind the end of the source nothing is read
  pub each_had_a_key : length (keys_in (events list)) ≡ rounds.0
  -- and the call that failed was one more
  pub asked : Asked source.asked source_after.asked (rounds.0 + 1)
  pub written : Wrote sink sink_after list

-- A drive that a failed write ended: the plan up to an event that shows bytes, whose call failed; what the events before it show was taken
pub record StoppedByWrite (plan : RunPlan) (source source_after : Source) (old new : Meaning) (sink sink_after : Sink) : Type 0 where
  pub list : List (Event × Outcome)
  pub before : List (Event × Outcome)
  pub last : Event × Outcome
  pub ends : list ≡ before ++ last ∷ []
  pub goes : Goes old list new
  pub keys : List ℕ
  pub known : AreKeysOf source keys
  pub cut : EndsInRound plan.rounds plan.quantum keys (is_halted old) list last
  pub shows : bytes_out last.1 ≢ []
  pub calls : Calls sink.calls sink_after.calls (calls_of before ++ failed (bytes_out last.1) ∷ [])
  pub typed : Consumes source.left source_after.left (keys_in (events list))
  -- the round that was cut off had begun too
  pub asked : AskedFor source.asked source_after.asked (length (keys_in (events list))) (cut.0 + 1)

-- such rounds as may begin, and of one more the first events
abbrev pub StopsInRound : (rounds quantum : ℕ) (keys : List ℕ) (halted : Bool) → List (Event × Outcome) → Type 0
StopsInRound rounds quantum keys halted list =
    (count : ℕ) × (before : List (Event × Outcome)) × (part : List (Event × Outcome)) × (rest : List Event)
    × (list ≡ before ++ part)
    × (count < rounds) × AreRounds count quantum keys halted before × ((halted || halts before) ≡ false)
    × (events part ++ rest ≡ round quantum (drop count keys))

-- of the keys that were read all were typed, or all but the last
abbrev pub AreTyped : (read typed : List ℕ) → Type 0
AreTyped read typed = (typed ≡ read) ⊎ ((b : ℕ) × (typed ++ b ∷ [] ≡ read))

-- Rounds that the player's refusal ended: the plan up to the event that it refused; what the events before it show was written
pub record StoppedByPlayer (plan : RunPlan) (source source_after : Source) (old new : Meaning) (sink sink_after : Sink) : Type 0 where
  pub list : List (Event × Outcome)
  pub goes : Goes old list new
  pub keys : List ℕ
  pub known : AreKeysOf source keys
  pub cut : StopsInRound plan.rounds plan.quantum keys (is_halted old) list
  pub written : Wrote sink sink_after list
  -- the key of the round that was broken off was read, whether or not it was typed
  pub read : List ℕ
  pub consumed : Consumes source.left source_after.left read
  pub typed : AreTyped read (keys_in (events list))
  pub asked : AskedFor source.asked source_after.asked (length read) (cut.0 + 1)

-- the end tells whether the machine is halted
abbrev pub IsEndOf : DriveEnd → Meaning → Type 0
IsEndOf (Halted status) m = m.world.turns.halted ≡ Some status
IsEndOf RoundsOver m = m.world.turns.halted ≡ None

-- what is so of a failed read, or of a failed write
abbrev pub OnRead : DriveError → Type 0 → Type 0
OnRead Read claim = claim
OnRead Write claim = ⊤

abbrev pub OnWrite : DriveError → Type 0 → Type 0
OnWrite Read claim = ⊤
OnWrite Write claim = claim
