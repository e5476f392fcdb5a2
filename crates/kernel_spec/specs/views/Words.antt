-- Small words that the rest is said with.
use Rattle.std.specs.Prelude.{ℕ, ◌%◌, ◌^◌, Bool, false, if◌then◌else◌, Option, None, Some, unwrap_or, option_and_then, ℤ, negsuc, nat_eq}
use Rattle.std.specs.Int.{cast_signed, cast_unsigned, w32, w64}

-- ---- registers by the calling convention (RISC-V Calling Conventions, "Integer Register Convention")

-- the stack pointer
abbrev pub SP : ℕ
SP = 2

-- the arguments of a kernel call; the first one's register takes its answer
abbrev pub A0 : ℕ
A0 = 10

abbrev pub A1 : ℕ
A1 = 11

abbrev pub A2 : ℕ
A2 = 12

-- the number of a kernel call
abbrev pub A7 : ℕ
A7 = 17

-- a C int: the low 32 bits of a register, read as signed
abbrev pub c_int : ℕ → ℤ
c_int x = cast_signed w32 (x % 2 ^ 32)

-- the register that holds a value: two's complement in 64 bits
abbrev pub word : ℤ → ℕ
word z = cast_unsigned w64 z

abbrev pub minus_one : ℤ
minus_one = negsuc 0

-- the clock counts ticks modulo this
abbrev pub CLOCK_ROUND : ℕ
CLOCK_ROUND = 2 ^ 32

-- the number, and 0 where there is none
abbrev pub or_zero : Option ℕ → ℕ
or_zero o = unwrap_or o 0

-- 1 where it is so
abbrev pub count_if : Bool → ℕ
count_if b = if b then 1 else 0

-- ---- functions of numbers

-- whether there is a number, and it is n
abbrev pub is_this : ℕ → Option ℕ → Bool
is_this n None = false
is_this n (Some k) = nat_eq k n

-- the function that gives a for k, and what it gave before for all others
abbrev pub with_value : {A : Type 0} → (ℕ → A) → ℕ → A → ℕ → A
with_value f k a q = if nat_eq q k then a else f q

-- ---- what may not be there

-- `x ← o`, a line of a `do`: x is what o has, and if o has nothing, there is nothing
infixr 5 ◌>>=◌
abbrev pub ◌>>=◌ : {A B : Type 0} → Option A → (A → Option B) → Option B
o >>= rest = option_and_then rest o
