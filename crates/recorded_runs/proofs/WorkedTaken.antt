-- Worked cases of what is taken out of a list at places.
use Rattle.std.proofs.Common.{◌≡◌, ◌<◌, ℕ, zero, suc, List, [], ◌∷◌, Option, None, Some, arith, refl}
use Rattle.recorded_runs.specs.Taken.{AreTaken, IsTakenAt, without_at}

-- of three, of which the second has nothing
abbrev pub three : List (Option ℕ)
three = Some 10 ∷ None ∷ Some 30 ∷ []

last_and_first : (i : ℕ) → i < 2 → IsTakenAt three (2 ∷ 0 ∷ []) (Some 30 ∷ Some 10 ∷ []) i
last_and_first zero less = λ _. refl
last_and_first (suc zero) less = λ _. refl
last_and_first (suc (suc i)) less = absurd (omega (arith, less))

-- the last and the first, in the order of the places
pub the_last_and_the_first : AreTaken three (2 ∷ 0 ∷ []) (Some 30 ∷ Some 10 ∷ [])
the_last_and_the_first = record { count = refl; those = last_and_first }

none_beyond : (i : ℕ) → i < 1 → IsTakenAt three (3 ∷ []) (None ∷ []) i
none_beyond zero less = λ _. refl
none_beyond (suc i) less = absurd (omega (arith, less))

-- behind its end it has nothing
pub behind_the_end_is_nothing : AreTaken three (3 ∷ []) (None ∷ [])
behind_the_end_is_nothing = record { count = refl; those = none_beyond }

-- what another place has isn't taken
pub another_is_not_taken : AreTaken three (2 ∷ []) (Some 10 ∷ []) → ⊥
another_is_not_taken taken = grind (arith, taken.those 0 (omega arith) (λ j less. absurd (omega (arith, less))))

-- and none is left out
pub none_is_left_out : AreTaken three (2 ∷ 0 ∷ []) (Some 30 ∷ []) → ⊥
none_is_left_out taken = absurd (omega (arith, taken.count))

-- what is taken is gone
pub it_is_gone : without_at 2 three ≡ Some 10 ∷ None ∷ None ∷ []
it_is_gone = refl
