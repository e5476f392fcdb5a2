-- A session at a terminal: stretches in which the machine is attended to, and between them lines at the prompt; `may_end` says whether these may be broken off, and `plan` by what a run goes on there.
use Rattle.std.specs.Prelude.{◌≡◌, ℕ, zero, suc, Bool, List, Option}
use Rattle.xv_session.specs.Recorded.{Recorded}
use Rattle.xv_live.specs.Shown.{Shown}
use Rattle.xv_debug.specs.Conversations.{Converses}
use Rattle.xv_debug.specs.motion.Plan.{Planned}

-- A stretch, and the lines after it. In the stretch the machine goes by events, and what they show, and nothing else, is written to the screen. Each line does to the session what a word of the debugger does, or nothing; and it writes nothing to the screen
pub record Stretch (may_end : Bool) (plan : Planned) (old new : Recorded) (screen screen_after : Option (List ℕ)) : Type 0 where
  pub stopped : Recorded
  pub shown : Shown old stopped screen screen_after
  pub lines : Converses may_end plan stopped new

-- so many stretches, one after another
abbrev pub Stretches : (may_end : Bool) → (plan : Planned) → ℕ → (old new : Recorded) → (screen screen_after : Option (List ℕ)) → Type 0
Stretches may_end plan zero old new screen screen_after = (new ≡ old) × (screen_after ≡ screen)
Stretches may_end plan (suc n) old new screen screen_after =
    (mid : Recorded) × (shown : Option (List ℕ)) × Stretches may_end plan n old mid screen shown × Stretch may_end plan mid new shown screen_after

-- Nothing but stretches and the lines after them moved the session and wrote to the screen
pub record Lives (may_end : Bool) (plan : Planned) (old new : Recorded) (screen screen_after : Option (List ℕ)) : Type 0 where
  pub count : ℕ
  pub stretches : Stretches may_end plan count old new screen screen_after
