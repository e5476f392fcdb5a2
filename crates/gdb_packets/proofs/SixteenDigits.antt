-- The sixteen digits.
use Rattle.std.proofs.Common.{◌≡◌, ℕ, zero, suc, ◌<◌, false, eqb, refl, Some, arith}
use Rattle.gdb_packets.specs.Digits.{digit, digit_value}

-- a digit is no $, and stands for its number
pub record IsDigitOf (n : ℕ) : Type 0 where
  pub plain : eqb (digit n) 36 ≡ false
  pub value : digit_value (digit n) ≡ Some n

pub digit-value : (n : ℕ) → n < 16 → IsDigitOf n
digit-value zero h = record { plain = refl; value = refl }
digit-value (suc zero) h = record { plain = refl; value = refl }
digit-value (suc (suc zero)) h = record { plain = refl; value = refl }
digit-value (suc (suc (suc zero))) h = record { plain = refl; value = refl }
digit-value (suc (suc (suc (suc zero)))) h = record { plain = refl; value = refl }
digit-value (suc (suc (suc (suc (suc zero))))) h = record { plain = refl; value = refl }
digit-value (suc (suc (suc (suc (suc (suc zero)))))) h = record { plain = refl; value = refl }
digit-value (suc (suc (suc (suc (suc (suc (suc zero))))))) h = record { plain = refl; value = refl }
digit-value (suc (suc (suc (suc (suc (suc (suc (suc zero)))))))) h = record { plain = refl; value = refl }
digit-value (suc (suc (suc (suc (suc (suc (suc (suc (suc zero))))))))) h = record { plain = refl; value = refl }
digit-value (suc (suc (suc (suc (suc (suc (suc (suc (suc (suc zero)))))))))) h = record { plain = refl; value = refl }
digit-value (suc (suc (suc (suc (suc (suc (suc (suc (suc (suc (suc zero))))))))))) h = record { plain = refl; value = refl }
digit-value (suc (suc (suc (suc (suc (suc (suc (suc (suc (suc (suc (suc zero)))))))))))) h = record { plain = refl; value = refl }
digit-value (suc (suc (suc (suc (suc (suc (suc (suc (suc (suc (suc (suc (suc zero))))))))))))) h = record { plain = refl; value = refl }
digit-value (suc (suc (suc (suc (suc (suc (suc (suc (suc (suc (suc (suc (suc (suc zero)))))))))))))) h = record { plain = refl; value = refl }
digit-value (suc (suc (suc (suc (suc (suc (suc (suc (suc (suc (suc (suc (suc (suc (suc zero))))))))))))))) h = record { plain = refl; value = refl }
digit-value (suc (suc (suc (suc (suc (suc (suc (suc (suc (suc (suc (suc (suc (suc (suc (suc n)))))))))))))))) h = absurd (omega arith)
