-- Lines, one after another.
use Rattle.std.proofs.Common.{◌≡◌, ◌⊎◌, ℕ, Bool, suc, inr, refl, subst}
use Rattle.xv_session.specs.Recorded.{Recorded}
use Rattle.xv_debug.specs.Conversations.{Converses, MovesByWord}
use Rattle.xv_debug.specs.Effects.{DoesSome, Obeys}
use Rattle.xv_debug.specs.motion.Plan.{Planned}
use Rattle.xv_debug.specs.declared.debugger.Next.{Next}

-- none yet
pub no_line : (may_end : Bool) (plan : Planned) (s : Recorded) → Converses may_end plan s s
no_line may_end plan s = record { lines = 0; moves = refl }

-- and one more, of a debugger that goes on by the same plan
pub one_more : (may_end : Bool) (plan now : Planned) (a b c : Recorded) → Converses may_end plan a b → now ≡ plan → MovesByWord may_end now b c → Converses may_end plan a c
one_more may_end plan now a b c so_far same moves =
    record { lines = suc so_far.lines; moves = (b, so_far.moves, subst (λ (q : Planned). MovesByWord may_end q b c) same moves) }

-- a line that was obeyed, whatever comes after it
pub obeyed : (may_end : Bool) (plan : Planned) (old new : Recorded) (next : Next) → Obeys may_end plan old new next → MovesByWord may_end plan old new
obeyed may_end plan old new next o = record { moves = inr (record { word = o.word; in_range = o.in_range; does = o.does }) }

-- or whose answer found too little memory
pub unanswered : (may_end : Bool) (plan : Planned) (old new : Recorded) → (new ≡ old) ⊎ DoesSome may_end plan old new → MovesByWord may_end plan old new
unanswered may_end plan old new moved = record { moves = moved }
