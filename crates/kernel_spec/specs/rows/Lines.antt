-- How a row of the call table is written: a line for each test, top down.
--   E when t      the step ends by E where the test t holds
--   x ← o or E    x is what o has; where it has nothing, the step ends by E
use Rattle.std.specs.Prelude.{ℕ, ℤ, pos, negsuc, Bool, true, false, Option, None, Some, Result, Ok, Err}
use Rattle.kernel_spec.specs.steps.Own.{Own}

-- What one line of a row comes to: the step ends, or goes on
pub data Line (A : Type 0) : Type 0 where
  Ends : Own → Line A
  Goes : A → Line A

infixr 5 ◌>>=◌
unfoldable pub ◌>>=◌ : {A : Type 0} → Line A → (A → Own) → Own
(Ends o) >>= rest = o
(Goes a) >>= rest = rest a

infixr 5 ◌>>◌
unfoldable pub ◌>>◌ : Line (Unit {0}) → Own → Own
(Ends o) >> rest = o
(Goes a) >> rest = rest

infix 10 ◌when◌
unfoldable pub ◌when◌ : Own → Bool → Line (Unit {0})
o when true = Ends o
o when false = Goes tt

infix 10 ◌or◌
unfoldable pub ◌or◌ : {A : Type 0} → Option A → Own → Line A
(Some a) or o = Goes a
None or o = Ends o

-- the number, where it isn't below 0
abbrev pub natural : ℤ → Option ℕ
natural (pos n) = Some n
natural (negsuc k) = None

abbrev pub result_of : {A E : Type 0} → Result A E → Option A
result_of (Ok a) = Some a
result_of (Err e) = None
