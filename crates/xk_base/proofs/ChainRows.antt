-- Worked cases of steps one after another: a step adds a number.
use Rattle.std.proofs.Common.{◌≡◌, ℕ, ◌+◌, refl, arith}
use Rattle.std.specs.Prelude.{[], ◌∷◌}
use Rattle.xk_base.specs.Chains.{Leads}

abbrev Adds : ℕ → ℕ → ℕ → Type 0
Adds from n to = to ≡ from + n

-- no step leads to where it began, and nowhere else
no_step : Leads Adds 1 [] 1
no_step = refl

no_step_elsewhere : Leads Adds 1 [] 2 → ⊥
no_step_elsewhere h = omega (arith, h)

-- two steps, each from where the one before it led
two_steps : Leads Adds 1 (2 ∷ 3 ∷ []) 6
two_steps = (3, refl, (6, refl, refl))

-- the second is made, and begins where the first one led
not_one_alone : Leads Adds 1 (2 ∷ 3 ∷ []) 3 → ⊥
not_one_alone (mid, first, (end, second, last)) = omega (arith, first, second, last)

not_from_the_start : Leads Adds 1 (2 ∷ 3 ∷ []) 4 → ⊥
not_from_the_start (mid, first, (end, second, last)) = omega (arith, first, second, last)

-- each step is of its own kind, in the order of the list
abbrev Doubles : ℕ → ℕ → ℕ → Type 0
Doubles from n to = to ≡ from + from + n

in_order : Leads Doubles 1 (2 ∷ 3 ∷ []) 11
in_order = (4, refl, (11, refl, refl))

not_turned_round : Leads Doubles 1 (2 ∷ 3 ∷ []) 12 → ⊥
not_turned_round (mid, first, (end, second, last)) = omega (arith, first, second, last)
