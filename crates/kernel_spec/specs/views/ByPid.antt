-- Entries by slot, seen by pid.
use Rattle.std.specs.Prelude.{ℕ, zero, suc, Option, Some, None}
use Rattle.std.specs.Ordering.{nat_cmp}
use Rattle.std.specs.FinMap.{FinMap, empty, insert}

abbrev pub put : {X : Type 0} → FinMap nat_cmp X → Option (ℕ × X) → FinMap nat_cmp X
put m None = m
put m (Some e) = insert m e.0 e.1

-- what stands in the slots below n, by pid
unfoldable pub by_pid : {X : Type 0} → (ℕ → Option (ℕ × X)) → ℕ → FinMap nat_cmp X
by_pid f zero = empty
by_pid f (suc n) = put (by_pid f n) (f n)
