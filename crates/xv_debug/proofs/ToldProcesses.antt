-- The processes that are told, line by line.
use Rattle.std.proofs.Common.{◌≡◌, ℕ, zero, suc, ◌+◌, ◌-◌, ◌<◌, inl, inr, List, [], ◌++◌, Option, None, Some, refl, subst, arith}
use Rattle.xv_session.specs.Recorded.{Recorded}
use Rattle.debug_views.specs.Focus.{IsLeastFrom}
use Rattle.xv_debug.specs.ProcessText.{AreLines, line_text, more_text}

-- so many lines were written
pub no-lines-left : (s : Recorded) (lines from : ℕ) (next : Option ℕ) → lines ≡ 0 → IsLeastFrom s.machine.world.state from next → AreLines s lines from (more_text next)
no-lines-left s zero from next none least = (next, least, refl)
no-lines-left s (suc lines) from next none least = absurd (omega (arith, none))

-- no process is left
pub no-more-lines : (s : Recorded) (lines from : ℕ) → 0 < lines → IsLeastFrom s.machine.world.state from None → AreLines s lines from []
no-more-lines s zero from some least = absurd (omega (arith, some))
no-more-lines s (suc lines) from some least = inl (least, refl)

-- the next one, and those behind it
pub lines-next : (s : Recorded) (lines from p : ℕ) (rest : List ℕ) → 0 < lines → IsLeastFrom s.machine.world.state from (Some p) → AreLines s (lines - 1) (p + 1) rest
    → AreLines s lines from (line_text s p ++ rest)
lines-next s zero from p rest some least more = absurd (omega (arith, some))
lines-next s (suc lines) from p rest some least more =
    let less : suc lines - 1 ≡ lines = omega arith in
    inr (p, rest, least, subst (λ n. AreLines s n (p + 1) rest) less more, refl)
