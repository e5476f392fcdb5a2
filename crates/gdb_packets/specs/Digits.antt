-- Hexadecimal digits and numbers (GDB manual, "Standard Replies" and "Overview" of the remote serial protocol).
use Rattle.std.specs.Prelude.{ℕ, ◌+◌, ◌-◌, ◌*◌, ◌/◌, ◌%◌, ◌^◌, Bool, ◌&&◌, nat_lt, nat_le, if◌then◌else◌, List, [], ◌∷◌, Option, Some, None}

-- the digit of a number below 16
abbrev pub digit : ℕ → ℕ
digit n = if nat_lt n 10 then 48 + n else 97 + (n - 10)

-- the byte lies from one to another
abbrev pub lies_in : ℕ → ℕ → ℕ → Bool
lies_in low high b = nat_le low b && nat_le b high

-- the number that a digit stands for: 0 to 9, a to f, A to F
abbrev pub digit_value : ℕ → Option ℕ
digit_value b =
    if lies_in 48 57 b then Some (b - 48)
    else (if lies_in 97 102 b then Some (b - 97 + 10) else (if lies_in 65 70 b then Some (b - 65 + 10) else None))

-- the two digits of a byte, the higher one first
abbrev pub byte_digits : ℕ → List ℕ
byte_digits b = digit (b / 16) ∷ digit (b % 16) ∷ []

-- a number, with one more digit behind it; none from 2 ^ 64 on
abbrev pub with_digit : ℕ → Option ℕ → Option ℕ
with_digit n None = None
with_digit n (Some d) = if nat_lt (n * 16 + d) (2 ^ 64) then Some (n * 16 + d) else None

abbrev pub number_on : Option ℕ → List ℕ → Option ℕ
number_on None digits = None
number_on (Some n) [] = Some n
number_on (Some n) (b ∷ digits) = number_on (with_digit n (digit_value b)) digits

-- the number of these digits, of which there is at least one, the highest first; none if another byte is among them, or it is 2 ^ 64 or more
abbrev pub number : List ℕ → Option ℕ
number [] = None
number (b ∷ digits) = number_on (Some 0) (b ∷ digits)
