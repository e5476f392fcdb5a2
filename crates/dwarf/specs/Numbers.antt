-- Numbers in a debugging table: of so many bytes, and in LEB128 (DWARF 5, section 7.6). All are little-endian.
use Rattle.std.specs.Prelude.{ℕ, zero, suc, ◌+◌, ◌-◌, ◌*◌, ◌%◌, ◌^◌, ◌≡◌, Bool, true, false, nat_lt, nat_le, if◌then◌else◌, List, [], ◌∷◌, length, take, drop, position, slice_index}
use Rattle.std.specs.Prelude.{Option, Some, None, Result, Ok, Err, ℤ, pos, negsuc}
use Rattle.xk_base.specs.ProgramFile.{number_at}
use Rattle.dwarf.specs.declared.fault.Fault.{Fault}
use Rattle.dwarf.specs.declared.fault.Fault.TheVariants.{Short, TooLarge}

-- what is read first, and then what is read of that: the first fault counts
infixl 10 ◌>>=◌
abbrev pub ◌>>=◌ : {A B : Type 0} → Result A Fault → (A → Result B Fault) → Result B Fault
(Ok x) >>= f = f x
(Err e) >>= f = Err e

-- the value of a test that may not give one, or a fault
abbrev pub or_fault : {A : Type 0} → Option A → Fault → Result A Fault
or_fault (Some x) fault = Ok x
or_fault None fault = Err fault

-- What a function returned, seen by view, is what reading gives.
abbrev pub Gives : {X Y : Type 0} → (X → Y) → Result X Fault → Result Y Fault → Type 0
Gives view (Ok x) read = read ≡ Ok (view x)
Gives view (Err e) read = read ≡ Err e

-- a number of n bytes

abbrev pub fixed : ℕ → List ℕ → ℕ → Result ℕ Fault
fixed n bytes at = if nat_le (at + n) (length bytes) then Ok (number_at n bytes at) else Err (Short at)

-- an offset or a length has 8 bytes in the 64-bit format, else 4
abbrev pub offset_bytes : Bool → ℕ
offset_bytes is_wide = if is_wide then 8 else 4

unfoldable pub offset : Bool → List ℕ → ℕ → Result ℕ Fault
offset is_wide bytes at = fixed (offset_bytes is_wide) bytes at

-- LEB128

-- the bytes of a number: up to the first one whose high bit is clear
abbrev pub up_to : Option ℕ → List ℕ → ℕ → Result (List ℕ) Fault
up_to (Some last) bytes at = Ok (take (last + 1) bytes)
up_to None bytes at = Err (Short at)

unfoldable pub leb_bytes : List ℕ → ℕ → Result (List ℕ) Fault
leb_bytes bytes at = up_to (position (λ b. nat_lt b 128) (drop at bytes)) (drop at bytes) at

-- the seven low bits of a byte, each turned in a negative number
abbrev pub group : Bool → ℕ → ℕ
group negative b = if negative then 127 - b % 128 else b % 128

-- the number that groups of seven bits write, the lowest first
abbrev pub groups : Bool → List ℕ → ℕ
groups negative [] = 0
groups negative (b ∷ bs) = group negative b + 128 * groups negative bs

abbrev pub below_64 : ℕ → Option ℕ
below_64 n = if nat_lt n (2 ^ 64) then Some n else None

-- an unsigned number, and the place after it
unfoldable pub unsigned : List ℕ → ℕ → Result (ℕ × ℕ) Fault
unsigned bytes at = leb_bytes bytes at >>= λ written. or_fault (below_64 (groups false written)) (TooLarge at) >>= λ n. Ok (n, at + length written)

-- a signed number is below 0 if bit 6 of its last byte is set
abbrev pub is_negative : List ℕ → Bool
is_negative written = nat_le 64 (slice_index written (length written - 1) % 128)

-- two's complement: -1 - n has the bits of n, each turned
abbrev pub with_sign : Bool → ℕ → ℤ
with_sign negative n = if negative then negsuc n else pos n

abbrev pub below_63 : ℕ → Option ℕ
below_63 n = if nat_lt n (2 ^ 63) then Some n else None

-- a signed number, and the place after it
unfoldable pub signed : List ℕ → ℕ → Result (ℤ × ℕ) Fault
signed bytes at = leb_bytes bytes at >>= λ written.
    or_fault (below_63 (groups (is_negative written) written)) (TooLarge at) >>= λ n.
    Ok (with_sign (is_negative written) n, at + length written)

-- n steps, each from where the one before led to, up to the first fault
unfoldable pub times : {A : Type 0} → (A → Result A Fault) → ℕ → A → Result A Fault
times step zero from = Ok from
times step (suc n) from = step from >>= λ after. times step n after

-- the place after a number, whatever its size is
abbrev pub past_number : List ℕ → ℕ → Result ℕ Fault
past_number bytes at = leb_bytes bytes at >>= λ written. Ok (at + length written)

-- the place after so many numbers
abbrev pub skipped : ℕ → List ℕ → ℕ → Result ℕ Fault
skipped n bytes at = times (past_number bytes) n at
