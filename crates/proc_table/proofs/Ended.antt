-- The ended child of least pid, slot by slot.
use Rattle.std.proofs.Common.{◌≡◌, ℕ, ◌<◌, ◌≤◌, List, Option, Some, None, arith}
use Rattle.std.proofs.Common.{length}
use Rattle.std.specs.Option.{ForSome}
use Rattle.proc_table.specs.declared.process.Process.{Process}
use Rattle.proc_table.specs.Reaping.{IsLeastEnded}

-- the slot that was found lies within the table
pub inside : (xs : List (Option Process)) (parent n : ℕ) (o : Option ℕ) → IsLeastEnded xs parent n o → n ≤ length xs → ForSome o (λ k. k < length xs)
inside xs parent n None h le k e = absurd (no_way e)
  where
    no_way : None ≡ Some k → ⊥
    no_way f = cc
inside xs parent n (Some s) h le k e = let same : s ≡ k = cc in omega (arith, h.0, le, same)
