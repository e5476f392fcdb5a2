-- How numbers stand in a packet: hexadecimal digits, the highest first.
use Rattle.std.specs.Prelude.{◌≡◌, ℕ, zero, suc, ◌/◌, ◌%◌, ◌^◌, ◌<◌, nat_lt, if◌then◌else◌, List, [], ◌∷◌, ◌++◌, Some}
use Rattle.gdb_packets.specs.Digits.{digit, number}

-- the digits of a number: so many at most, the lowest ones
unfoldable pub digits_in : (most : ℕ) → ℕ → List ℕ
digits_in zero n = []
digits_in (suc most) n = if nat_lt n 16 then digit n ∷ [] else digits_in most (n / 16) ++ digit (n % 16) ∷ []

-- the digits of a number below 2 ^ 64, with no 0 before the others
unfoldable pub digits : ℕ → List ℕ
digits n = digits_in 16 n

-- a number that is written, read again, is the same
abbrev pub NumbersReadBack : Type 0
NumbersReadBack = (n : ℕ) → n < 2 ^ 64 → number (digits n) ≡ Some n
