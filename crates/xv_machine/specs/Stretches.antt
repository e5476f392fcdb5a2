-- Stretches of a drive: events that were sent one after another. Only this crate's private functions speak of them.
use Rattle.std.specs.Prelude.{◌≡◌, ◌≢◌, ◌≤◌, ℕ, Bool, true, false, List, [], ◌∷◌, ◌++◌, replicate, Option, None, Some, Result, MatchResult}
use Rattle.xk_base.specs.declared.limits.TheConstants.{SEND_BYTES}
use Rattle.kernel_spec.specs.runs.Run.{Event, Run, Tick, Send, Outcome, Sent, Ticked, bytes_out, out}
use Rattle.kernel_spec.specs.runs.Rounds.{events, round, AreRounds}
use Rattle.kernel_spec.specs.waking.Wakes.{Promised, IsPromised}
use Rattle.xv_machine.specs.Devices.{one_more, GivesKey, Sink, Calls, failed}
use Rattle.xv_machine.specs.Drives.{GivesTurn, Goes, Wrote, calls_of}
use Rattle.xv_machine.specs.Machine.{SameTrace}
use Rattle.xv_machine.specs.Meaning.{Meaning}
use Rattle.xv_machine.specs.Sound.{IsSoundMachine}

-- these events were sent, and show no byte
pub record Silent (wanted : List Event) (old new : Meaning) : Type 0 where
  pub list : List (Event × Outcome)
  pub goes : Goes old list new
  pub those : events list ≡ wanted
  pub silent : out list ≡ []

-- these events were sent, and what they show was written
pub record Played (wanted : List Event) (old new : Meaning) (sink sink_after : Sink) : Type 0 where
  pub list : List (Event × Outcome)
  pub goes : Goes old list new
  pub those : events list ≡ wanted
  pub written : Wrote sink sink_after list

-- of these events those up to one that shows bytes were sent; the call for these failed, and what was shown before was taken
pub record BrokeOff (wanted : List Event) (old new : Meaning) (sink sink_after : Sink) : Type 0 where
  pub before : List (Event × Outcome)
  pub last : Event × Outcome
  pub rest : List Event
  pub goes : Goes old (before ++ last ∷ []) new
  pub those : events (before ++ last ∷ []) ++ rest ≡ wanted
  pub shows : bytes_out last.1 ≢ []
  pub calls : Calls sink.calls sink_after.calls (calls_of before ++ failed (bytes_out last.1) ∷ [])

-- of these events the first were sent, and show no byte
pub record SilentFirst (wanted : List Event) (old new : Meaning) : Type 0 where
  pub part : List Event
  pub rest : List Event
  pub those : part ++ rest ≡ wanted
  pub silent : Silent part old new

-- of these events the first were sent, and what they show was written
pub record PlayedFirst (wanted : List Event) (old new : Meaning) (sink sink_after : Sink) : Type 0 where
  pub part : List Event
  pub rest : List Event
  pub those : part ++ rest ≡ wanted
  pub played : Played part old new sink sink_after

-- these events were sent, or those up to one whose bytes could not be written
abbrev pub Plays : {E : Type 0} → Result (Unit {0}) E → List Event → Meaning → Meaning → Sink → Sink → Type 0
Plays result wanted old new sink sink_after = MatchResult result (λ _. Played wanted old new sink sink_after) (λ _. BrokeOff wanted old new sink sink_after)

-- Sends, with what comes of them: one, where a byte leaves, and else so many, at none of which a byte waits
abbrev pub sends : (most : ℕ) → (byte : Option ℕ) → List (Event × Outcome)
sends most None = replicate most (Send, Sent None)
sends most (Some b) = (Send, Sent (Some b)) ∷ []

-- one more call failed, or none did
abbrev pub FailsSo : {E : Type 0} → Result (Unit {0}) E → (before after : ℕ) → Type 0
FailsSo written before after = MatchResult written (λ _. after ≡ before) (λ _. after ≡ one_more before)

-- the key of a round: none, where the source was at its end before, and else what it gives
abbrev pub TakesKey : (at_end : Bool) → (left : Option (List ℕ)) → (key : Option ℕ) → (left_after : Option (List ℕ)) → Type 0
TakesKey true left key after = (key ≡ None) × (after ≡ left)
TakesKey false left key after = GivesKey left key after

-- ---- over ticks

-- so many whole rounds without a key were played, and nothing was shown; if the machine wasn't halted, it still isn't
pub record PlayedQuietly (count quantum : ℕ) (old new : Meaning) : Type 0 where
  pub list : List (Event × Outcome)
  pub goes : Goes old list new
  pub rounds : AreRounds count quantum [] false list
  pub silent : out list ≡ []
  pub goes_on : old.world.turns.halted ≡ None → new.world.turns.halted ≡ None

-- and then the Runs of one more
abbrev pub RanOver : (passed quantum : ℕ) → Meaning → Meaning → Type 0
RanOver passed quantum old new = (start : Meaning) × PlayedQuietly passed quantum old start × Silent (replicate quantum Run) start new

-- so many at most, and then the first of the Runs of one more
abbrev pub RanOverFirst : (most quantum : ℕ) → Meaning → Meaning → Type 0
RanOverFirst most quantum old new = (passed : ℕ) × (start : Meaning) × (passed ≤ most) × PlayedQuietly passed quantum old start × SilentFirst (replicate quantum Run) start new

-- and then one round more, with this key, was played, or its events up to one whose bytes could not be written
abbrev pub PlaysOn : {E : Type 0} → (passed : ℕ) → Result (Unit {0}) E → (quantum : ℕ) → (keys : List ℕ) → Meaning → Meaning → Sink → Sink → Type 0
PlaysOn passed result quantum keys old new sink sink_after = (start : Meaning) × PlayedQuietly passed quantum old start × Plays result (round quantum keys) start new sink sink_after

-- or the first of its events
abbrev pub PlayedOnFirst : (most quantum : ℕ) (keys : List ℕ) → Meaning → Meaning → Sink → Sink → Type 0
PlayedOnFirst most quantum keys old new sink sink_after =
    (passed : ℕ) × (start : Meaning) × (passed ≤ most) × PlayedQuietly passed quantum old start × PlayedFirst (round quantum keys) start new sink sink_after

-- a round ends and the next one begins; the trace keeps no note yet
pub record TicksAndTurns (outcome : Outcome) (old new : Meaning) : Type 0 where
  pub between : Meaning
  pub ends : IsPromised old.world ((Tick, Ticked) ∷ replicate SEND_BYTES (Send, Sent None)) between.world
  pub goes_on : between.world.turns.halted ≡ None
  pub begins : Promised between.world Run outcome new.world
  pub gives : GivesTurn outcome
  pub frames_then : between.frames.count ≡ old.frames.count
  pub frames : new.frames.count ≡ old.frames.count
  pub trace_then : SameTrace old between
  pub trace : SameTrace old new
  pub sound : IsSoundMachine between
