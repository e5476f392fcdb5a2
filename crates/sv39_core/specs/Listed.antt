-- What a partial function gives below a bound, as a list.
use Rattle.std.specs.Prelude.{ℕ, zero, suc, List, [], ◌∷◌, Option, Some, None}
pub use Rattle.xk_base.specs.Gathered.{insert_some}
unfoldable pub use Rattle.xk_base.specs.Gathered.{gathered}

abbrev pub push_some : Option ℕ → List ℕ → List ℕ
push_some None xs = xs
push_some (Some x) xs = x ∷ xs

-- the values of f at the numbers below n
unfoldable pub listed : (ℕ → Option ℕ) → ℕ → List ℕ
listed f zero = []
listed f (suc n) = push_some (f n) (listed f n)
