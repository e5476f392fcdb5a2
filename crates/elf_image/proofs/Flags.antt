-- A flag of a number that isn't zero in the number's mask is a bit of it.
use Rattle.std.proofs.Common.{◌≡◌, ℕ, zero, suc, ◌*◌, ◌/◌, ◌%◌, ◌<◌, not, eqb, bit_and, refl, ap, ◌∙◌, arith}
use Rattle.std.proofs.lemmas.Nat.{and_mask}
use Rattle.std.proofs.lemmas.Nat.Bits.{and_high}

bit_set : (b : ℕ) → b < 2 → not (eqb b 0) ≡ eqb b 1
bit_set zero lt = refl
bit_set (suc zero) lt = refl
bit_set (suc (suc b)) lt = absurd (omega (arith, lt))

twice_set : (b : ℕ) → b < 2 → not (eqb (b * 2) 0) ≡ eqb b 1
twice_set zero lt = refl
twice_set (suc zero) lt = refl
twice_set (suc (suc b)) lt = absurd (omega (arith, lt))

-- the flag 1 is bit 0
pub flag_one : (flags : ℕ) → not (eqb (bit_and flags 1) 0) ≡ eqb (flags % 2) 1
flag_one flags = ap (λ m. not (eqb m 0)) (and_mask flags 1) ∙ bit_set (flags % 2) (omega arith)

-- the flag 2 is bit 1
pub flag_two : (flags : ℕ) → not (eqb (bit_and flags 2) 0) ≡ eqb (flags / 2 % 2) 1
flag_two flags = ap (λ m. not (eqb m 0)) (and_high flags 1 1) ∙ twice_set (flags / 2 % 2) (omega arith)
