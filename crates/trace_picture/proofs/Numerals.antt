-- Numbers that are read of words.
use Rattle.std.proofs.Common.{◌≡◌, ◌∙◌, ℕ, ◌<◌, ◌^◌, Bool, true, List, [], ◌∷◌, length, None, Some, refl, sym, ap, w32, w64, FitsSigned}
use Rattle.std.proofs.lemmas.Bool.{and_from, and_parts, cond-false, cond-true, false_from_ne_true, lt-ltb, ltb-true}
use Rattle.std.specs.Prelude.{◌&&◌, ℤ, pos, negsuc, nat_lt}
use Rattle.std.proofs.lemmas.Str.Parse.{IsNumeralModel, numerals_by_value, tells_all_ascii_digits}
use Rattle.std.specs.Str.{all_ascii_digits}
use Rattle.std.specs.Str.Parse.{IsNumeral, digits_value, signed_digits_value, without_leading_sign}
use Rattle.trace_picture.specs.Notes.{has_bits, if_below, is_numeral, signed}

-- ---- digits

abbrev IsAllDigits : List ℕ → Type 0
IsAllDigits digits = all_ascii_digits digits ≡ true

own : IsNumeralModel IsAllDigits (digits_value 10)
own = numerals_by_value IsAllDigits tells_all_ascii_digits

numeral-is : (digits : List ℕ) → is_numeral digits ≡ true → IsNumeral 10 digits
numeral-is digits is =
    let parts = and_parts (nat_lt 0 (length digits)) (all_ascii_digits digits) is in
    (ltb-true 0 (length digits) parts.0, own.to digits parts.1)

is-numeral : (digits : List ℕ) → IsNumeral 10 digits → is_numeral digits ≡ true
is-numeral digits numeral = and_from (nat_lt 0 (length digits)) (all_ascii_digits digits) (lt-ltb 0 (length digits) numeral.0) (own.from digits numeral.1)

-- ---- without a sign

pub number-is : (limit : ℕ) (digits : List ℕ) (n : ℕ) → IsNumeral 10 digits → digits_value 10 digits < limit → n ≡ digits_value 10 digits → Some n ≡ if_below limit digits
number-is limit digits n numeral small is =
    ap (λ (k : ℕ). Some k) is
    ∙ sym (cond-true (is_numeral digits && nat_lt (digits_value 10 digits) limit) (Some (digits_value 10 digits)) None
    (and_from (is_numeral digits) (nat_lt (digits_value 10 digits) limit) (is-numeral digits numeral) (lt-ltb (digits_value 10 digits) limit small)))

pub no-number : (limit : ℕ) (digits : List ℕ) → ¬ (IsNumeral 10 digits × (digits_value 10 digits < limit)) → None ≡ if_below limit digits
no-number limit digits not_so =
    let small = nat_lt (digits_value 10 digits) limit in
    sym (cond-false (is_numeral digits && small) (Some (digits_value 10 digits)) None (false_from_ne_true (is_numeral digits && small) (λ both.
    let parts = and_parts (is_numeral digits) small both in
    not_so (numeral-is digits parts.0, ltb-true (digits_value 10 digits) limit parts.1))))

-- ---- with a sign

fits-32 : (z : ℤ) → FitsSigned w32 z → has_bits 32 z ≡ true
fits-32 (pos n) fits = lt-ltb n (2 ^ 31) fits.sfits
fits-32 (negsuc k) fits = lt-ltb k (2 ^ 31) fits.sfits

in-32 : (z : ℤ) → has_bits 32 z ≡ true → FitsSigned w32 z
in-32 (pos n) is = record { sfits = ltb-true n (2 ^ 31) is }
in-32 (negsuc k) is = record { sfits = ltb-true k (2 ^ 31) is }

fits-64 : (z : ℤ) → FitsSigned w64 z → has_bits 64 z ≡ true
fits-64 (pos n) fits = lt-ltb n (2 ^ 63) fits.sfits
fits-64 (negsuc k) fits = lt-ltb k (2 ^ 63) fits.sfits

in-64 : (z : ℤ) → has_bits 64 z ≡ true → FitsSigned w64 z
in-64 (pos n) is = record { sfits = ltb-true n (2 ^ 63) is }
in-64 (negsuc k) is = record { sfits = ltb-true k (2 ^ 63) is }

signed-is : (bits : ℕ) (word : List ℕ) (n : ℤ) → IsNumeral 10 (without_leading_sign word)
    → has_bits bits (signed_digits_value 10 word) ≡ true → n ≡ signed_digits_value 10 word → Some n ≡ signed bits word
signed-is bits word n numeral fits is =
    let v = signed_digits_value 10 word in
    ap (λ (k : ℤ). Some k) is
    ∙ sym (cond-true (is_numeral (without_leading_sign word) && has_bits bits v) (Some v) None
    (and_from (is_numeral (without_leading_sign word)) (has_bits bits v) (is-numeral (without_leading_sign word) numeral) fits))

no-signed : (bits : ℕ) (word : List ℕ) → ¬ (IsNumeral 10 (without_leading_sign word) × (has_bits bits (signed_digits_value 10 word) ≡ true)) → None ≡ signed bits word
no-signed bits word not_so =
    let v = signed_digits_value 10 word in
    let is = is_numeral (without_leading_sign word) in
    sym (cond-false (is && has_bits bits v) (Some v) None (false_from_ne_true (is && has_bits bits v) (λ both.
    let parts = and_parts is (has_bits bits v) both in
    not_so (numeral-is (without_leading_sign word) parts.0, parts.1))))

pub signed-32 : (word : List ℕ) (n : ℤ) → IsNumeral 10 (without_leading_sign word) → FitsSigned w32 (signed_digits_value 10 word) → n ≡ signed_digits_value 10 word → Some n ≡ signed 32 word
signed-32 word n numeral fits is = signed-is 32 word n numeral (fits-32 (signed_digits_value 10 word) fits) is

pub no-signed-32 : (word : List ℕ) → ¬ (IsNumeral 10 (without_leading_sign word) × FitsSigned w32 (signed_digits_value 10 word)) → None ≡ signed 32 word
no-signed-32 word not_so =
    no-signed 32 word (λ both. not_so (both.0, in-32 (signed_digits_value 10 word) both.1))

pub signed-64 : (word : List ℕ) (n : ℤ) → IsNumeral 10 (without_leading_sign word) → FitsSigned w64 (signed_digits_value 10 word) → n ≡ signed_digits_value 10 word → Some n ≡ signed 64 word
signed-64 word n numeral fits is = signed-is 64 word n numeral (fits-64 (signed_digits_value 10 word) fits) is

pub no-signed-64 : (word : List ℕ) → ¬ (IsNumeral 10 (without_leading_sign word) × FitsSigned w64 (signed_digits_value 10 word)) → None ≡ signed 64 word
no-signed-64 word not_so =
    no-signed 64 word (λ both. not_so (both.0, in-64 (signed_digits_value 10 word) both.1))
