-- What a partial function gives below a bound, as a finite map.
use Rattle.std.specs.Prelude.{ℕ, zero, suc, Option, Some, None}
use Rattle.std.specs.Ordering.{nat_cmp}
use Rattle.std.specs.FinMap.{FinMap, empty, insert}

abbrev pub insert_some : {X : Type 0} → FinMap nat_cmp X → ℕ → Option X → FinMap nat_cmp X
insert_some m k None = m
insert_some m k (Some x) = insert m k x

-- f below n, as a finite map
unfoldable pub gathered : {X : Type 0} → (ℕ → Option X) → ℕ → FinMap nat_cmp X
gathered f zero = empty
gathered f (suc n) = insert_some (gathered f n) n (f n)
