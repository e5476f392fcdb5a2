-- Rounds in which no key is typed.
use Rattle.std.specs.Prelude.{◌≡◌, ℕ, zero, suc, ◌≤◌, ◌<◌, Bool, true, List, [], ◌++◌, IsSome}
use Rattle.kernel_spec.specs.runs.Rounds.{round}
use Rattle.kernel_spec.specs.runs.Run.{Event}
use Rattle.xv_session.specs.Recorded.{Recorded}
use Rattle.xv_debug.specs.motion.Sent.{Plays, any_fault}
use Rattle.xv_debug.specs.declared.motion.output.Output.{Output}
use Rattle.xv_debug.specs.declared.motion.journey.Stop.{Stop}
use Rattle.xv_debug.specs.declared.motion.journey.Stop.TheVariants.{Done, Met, Asleep, Halted, Broken, Refused}

-- so many rounds without a key, one behind another
abbrev pub rounds_of : (quantum count : ℕ) → List Event
rounds_of quantum zero = []
rounds_of quantum (suc n) = rounds_of quantum n ++ round quantum []

-- These were played; and where `faulted` says so, a process faulted by one of them
pub record PlaysTelling (wanted : List Event) (faulted : Bool) (old new : Recorded) (had has : Output) : Type 0 where
  pub plays : Plays wanted old new had has
  pub told : faulted ≡ true → any_fault plays.list ≡ true

-- The first events of these were played, or all, or none
pub record PlaysPart (wanted : List Event) (old new : Recorded) (had has : Output) : Type 0 where
  pub part : List Event
  pub rest : List Event
  pub begins : part ++ rest ≡ wanted
  pub plays : Plays part old new had has

-- Whole rounds were played, so many at most, of which the last had a fault
pub record PlaysToFault (quantum most : ℕ) (old new : Recorded) (had has : Output) : Type 0 where
  pub whole : ℕ
  pub within : whole ≤ most
  pub tells : PlaysTelling (rounds_of quantum whole) true old new had has

-- Whole rounds were played, so many at most, and then the machine has halted
pub record PlaysToEnd (quantum most : ℕ) (old new : Recorded) (had has : Output) : Type 0 where
  pub whole : ℕ
  pub within : whole ≤ most
  pub plays : Plays (rounds_of quantum whole) old new had has
  pub halted : IsSome new.machine.world.turns.halted

-- Whole rounds were played, fewer than so many, and then it was broken off, which may happen
pub record PlaysToBreak (may_end : Bool) (quantum most : ℕ) (old new : Recorded) (had has : Output) : Type 0 where
  pub whole : ℕ
  pub fewer : whole < most
  pub plays : Plays (rounds_of quantum whole) old new had has
  pub broken : may_end ≡ true

-- What rounds leave, by why there were no more: all of them were played; or fewer, up to a fault, to the machine's end, or to where it was broken off; or the first of their events
abbrev pub RoundsLeave : (may_end : Bool) → (quantum most : ℕ) → Stop → (old new : Recorded) → (had has : Output) → Type 0
RoundsLeave may_end quantum most Done old new had has = Plays (rounds_of quantum most) old new had has
RoundsLeave may_end quantum most Met old new had has = PlaysToFault quantum most old new had has
RoundsLeave may_end quantum most Halted old new had has = PlaysToEnd quantum most old new had has
RoundsLeave may_end quantum most (Refused error) old new had has = PlaysPart (rounds_of quantum most) old new had has
RoundsLeave may_end quantum most Broken old new had has = PlaysToBreak may_end quantum most old new had has
RoundsLeave may_end quantum most Asleep old new had has = ⊥
