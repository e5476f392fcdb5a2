-- Stretches of a session, one after another.
use Rattle.std.proofs.Common.{◌≡◌, ℕ, suc, Bool, List, Option, refl, subst}
use Rattle.xv_session.specs.Recorded.{Recorded}
use Rattle.xv_live.specs.Shown.{Shown}
use Rattle.xv_debug.specs.Conversations.{Converses}
use Rattle.xv_debug.specs.motion.Plan.{Planned}
use Rattle.terminal_session.specs.Stretches.{Stretch, Lives}

pub stretch-of : (may_end : Bool) (plan : Planned) (s t u : Recorded) (h k : Option (List ℕ)) → Shown s t h k → Converses may_end plan t u → Stretch may_end plan s u h k
stretch-of may_end plan s t u h k shown lines = record { stopped = t; shown = shown; lines = lines }

-- none yet
pub lives-none : (may_end : Bool) (plan : Planned) (s : Recorded) (h : Option (List ℕ)) → Lives may_end plan s s h h
lives-none may_end plan s h = record { count = 0; stretches = (refl, refl) }

-- and one more, of a debugger that goes on by the same plan
pub lives-more : (may_end : Bool) (plan now : Planned) (s t u : Recorded) (h k m : Option (List ℕ)) → Lives may_end plan s t h k → now ≡ plan → Stretch may_end now t u k m →
    Lives may_end plan s u h m
lives-more may_end plan now s t u h k m so_far same more =
    record { count = suc so_far.count; stretches = (t, k, so_far.stretches, subst (λ (q : Planned). Stretch may_end q t u k m) same more) }
