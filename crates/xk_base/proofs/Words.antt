-- Little-endian numbers: the words of the kit's crates are this crate's.
use Rattle.std.proofs.Common.{◌≡◌, ℕ, zero, suc, ◌+◌, ◌*◌, ◌/◌, ◌%◌, ◌^◌, List, [], ◌∷◌, length, take, refl, sym, ap, ◌∙◌, arith}
use Rattle.std.proofs.Math.Nat.{div-div-eq-div-mul, div-one, pow-suc}
use Rattle.std.specs.Int.{byte_at, bytes_low_first}
use Rattle.byteorder.specs.Endian.{little_from, little_number}
use Rattle.byteorder.specs.Numbers.{little_from-cons}
use Rattle.xk_base.specs.Words.{le, le_bytes}

little_from-none : (i n : ℕ) → little_from i n [] ≡ 0
little_from-none i zero = refl
little_from-none i (suc n) = let rest = little_from-none (suc i) n in omega (arith, rest)

-- what `byteorder` reads
pub little_number-le : (n : ℕ) (xs : List ℕ) → little_number n xs ≡ le (take n xs)
little_number-le zero xs = refl
little_number-le (suc n) [] = let rest = little_from-none 1 n in omega (arith, rest)
little_number-le (suc n) (x ∷ xs) = ap (λ r. x + 256 * r) (little_from-cons 0 n x xs ∙ little_number-le n xs)

byte_at-pow : (i x : ℕ) → byte_at i x ≡ x / 256 ^ i % 256
byte_at-pow zero x = ap (λ y. y % 256) (sym (div-one x))
byte_at-pow (suc i) x = refl

bytes_from : (i n x : ℕ) → bytes_low_first i n x ≡ le_bytes n (x / 256 ^ i)
bytes_from i zero x = refl
bytes_from i (suc n) x =
    ap (λ b. b ∷ bytes_low_first (suc i) n x) (byte_at-pow i x)
    ∙ ap (λ r. (x / 256 ^ i % 256) ∷ r) (bytes_from (suc i) n x ∙ ap (le_bytes n) (ap (λ p. x / p) (pow-suc 256 i) ∙ sym (div-div-eq-div-mul x (256 ^ i) 256)))

-- what `byteorder` and `to_le_bytes` write
pub bytes_low_first-le : (n x : ℕ) → bytes_low_first 0 n x ≡ le_bytes n x
bytes_low_first-le n x = bytes_from 0 n x ∙ ap (le_bytes n) (div-one x)

pub length-le_bytes : (n x : ℕ) → length (le_bytes n x) ≡ n
length-le_bytes zero x = refl
length-le_bytes (suc n) x = let rest = length-le_bytes n (x / 256) in omega (arith, rest)
