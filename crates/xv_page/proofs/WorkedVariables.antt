-- Worked questions about variables: which registers are known, where the stack begins, which scope is meant.
use Rattle.std.proofs.Common.{◌≡◌, ℕ, [], ◌∷◌, Some, None, refl}
use Rattle.xv_page.specs.Variables.{base_of, register_among, scope_named}
use Rattle.xv_page.specs.declared.variables.RegisterKnown.{RegisterKnown}
use Rattle.xv_page.specs.declared.variables.Scope.TheVariants.{Locals, Globals}

abbrev known : (number value : ℕ) → RegisterKnown
known number value = record { number = number; value = value }

-- of two of one number the first counts
the_first : register_among (known 2 7 ∷ known 8 9 ∷ known 2 5 ∷ []) 2 ≡ Some 7
the_first = refl

another : register_among (known 2 7 ∷ known 8 9 ∷ []) 8 ≡ Some 9
another = refl

not_known : register_among (known 2 7 ∷ known 8 9 ∷ []) 3 ≡ None
not_known = refl

with_base : base_of 1 0x3000 ≡ Some 0x3000
with_base = refl

without_base : base_of 0 0x3000 ≡ None
without_base = refl

locals : scope_named 0 ≡ Some Locals
locals = refl

globals : scope_named 1 ≡ Some Globals
globals = refl

no_scope : scope_named 2 ≡ None
no_scope = refl
