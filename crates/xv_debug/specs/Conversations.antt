-- What lines of words, one after another, do to a session; `may_end` says whether they may be broken off, and `plan` by what the run goes on.
use Rattle.std.specs.Prelude.{◌≡◌, ◌⊎◌, ℕ, zero, suc, Bool}
use Rattle.xv_session.specs.Recorded.{Recorded}
use Rattle.xv_debug.specs.Effects.{DoesSome}
use Rattle.xv_debug.specs.motion.Plan.{Planned}

-- A line leaves the session as it was, or does to it what a word of the debugger does
pub record MovesByWord (may_end : Bool) (plan : Planned) (old new : Recorded) : Type 0 where
  pub moves : (new ≡ old) ⊎ DoesSome may_end plan old new

-- so many lines, one after another
abbrev pub MovesByWords : (may_end : Bool) → (plan : Planned) → ℕ → Recorded → Recorded → Type 0
MovesByWords may_end plan zero old new = new ≡ old
MovesByWords may_end plan (suc n) old new = (mid : Recorded) × MovesByWords may_end plan n old mid × MovesByWord may_end plan mid new

-- Nothing but the words of so many lines moved the session, and all of them went on by this plan
pub record Converses (may_end : Bool) (plan : Planned) (old new : Recorded) : Type 0 where
  pub lines : ℕ
  pub moves : MovesByWords may_end plan lines old new
