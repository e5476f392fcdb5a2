-- What takes bytes off a terminal, for one byte more.
use Rattle.std.proofs.Common.{◌≡◌, ℕ, zero, suc, ◌+◌, List, [], ◌∷◌, ◌++◌, refl, ap, add-one}
use Rattle.console_core.specs.Keys.{wipes}

pub wipes_more : (n : ℕ) → wipes (n + 1) ≡ wipes n ++ 8 ∷ 32 ∷ 8 ∷ []
wipes_more n = rw add-one (go n)
  where
    go : (n : ℕ) → wipes (suc n) ≡ wipes n ++ 8 ∷ 32 ∷ 8 ∷ []
    go zero = refl
    go (suc n) = ap (λ (xs : List ℕ). 8 ∷ 32 ∷ 8 ∷ xs) (go n)
