-- Words on numbers and lists that several crates are said with.
use Rattle.std.specs.Prelude.{ℕ, zero, suc, ◌+◌, ◌*◌, ◌/◌, ◌%◌, Bool, if◌then◌else◌, List, [], ◌∷◌, Option, None, Some}

-- the number that bytes write, the lowest first
abbrev pub le : List ℕ → ℕ
le [] = 0
le (b ∷ bs) = b + 256 * le bs

-- the n lowest bytes of a number, the lowest first
abbrev pub le_bytes : ℕ → ℕ → List ℕ
le_bytes zero x = []
le_bytes (suc n) x = (x % 256) ∷ le_bytes n (x / 256)

-- the number that was found, or n where the test passes there
abbrev pub or_here : Option ℕ → Bool → ℕ → Option ℕ
or_here (Some k) passes n = Some k
or_here None passes n = if passes then Some n else None

-- the least number below n that passes a test
unfoldable pub least_below : (ℕ → Bool) → ℕ → Option ℕ
least_below test zero = None
least_below test (suc n) = or_here (least_below test n) (test n) n

-- how many numbers below n pass a test
unfoldable pub count_below : (ℕ → Bool) → ℕ → ℕ
count_below test zero = 0
count_below test (suc n) = count_below test n + (if test n then 1 else 0)
