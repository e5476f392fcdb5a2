-- Units of UTF-16, one behind another.
use Rattle.std.proofs.Common.{◌≡◌, ℕ, zero, suc, ◌+◌, ◌*◌, ◌<◌, List, [], ◌∷◌, ◌++◌, length, take, get_or, refl, ap, arith}
use Rattle.grade_submissions.specs.Encodings.{unit, units_of}
use Rattle.grade_submissions.specs.declared.encodings.ByteOrder.{ByteOrder}

-- two bytes more are a unit more
pub units_more : (order : ByteOrder) (bytes : List ℕ) (k : ℕ) → 2 * k + 1 < length bytes
    → units_of order (take (2 * (k + 1)) bytes) ≡ units_of order (take (2 * k) bytes) ++ unit order (get_or bytes (2 * k) 0) (get_or bytes (2 * k + 1) 0) ∷ []
units_more order [] k within = absurd (omega (arith, within))
units_more order (a ∷ []) k within = absurd (omega (arith, within))
units_more order (a ∷ b ∷ bytes) zero within = refl
units_more order (a ∷ b ∷ bytes) (suc k) within =
    let one : 2 * (suc k + 1) ≡ suc (suc (2 * (k + 1))) = omega arith in
    let two : 2 * suc k + 1 ≡ suc (suc (2 * k + 1)) = omega arith in
    let three : 2 * suc k ≡ suc (suc (2 * k)) = omega arith in
    rw (one, two, three) (ap (λ (us : List ℕ). unit order a b ∷ us) (units_more order bytes k (omega (arith, within))))
