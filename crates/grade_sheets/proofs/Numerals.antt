-- Numbers that are read of digits.
use Rattle.grade_sheets.proofs.Prelude.{[], ℕ, ◌&&◌, ◌<◌, ◌==◌, ◌^◌, ◌∙◌, ◌∷◌, ◌≡◌, AllDigits, and_from, and_parts, ap, arith, Bool, cases_Bool, cond, cond-false, cond-true, digits_value, drop}
use Rattle.grade_sheets.proofs.Prelude.{eqb-true, false_from_ne_true, inl, inr, is_numeral, IsAscii-cons, IsNumeral, length, List, list_all, lt-ltb, ltb-true, nat_lt, None, number_of, refl, Some}
use Rattle.grade_sheets.proofs.Prelude.{subst, sym, true, without_leading_plus}
use Rattle.std.specs.Char.{is_digit, digit_value}
use Rattle.std.specs.Str.{IsAscii, IsUtf8}
use Rattle.std.proofs.lemmas.Fmt.{IsAscii-from_digits}
use Rattle.std.proofs.lemmas.Str.{IsUtf8-from_ascii}

-- ---- digits

all-digits : (digits : List ℕ) → AllDigits 10 digits → list_all (λ c. is_digit c 10) digits ≡ true
all-digits [] all = refl
all-digits (c ∷ digits) all = and_from (is_digit c 10) (list_all (λ d. is_digit d 10) digits) (lt-ltb (digit_value c) 10 all.0) (all-digits digits all.1)

digits-all : (digits : List ℕ) → list_all (λ c. is_digit c 10) digits ≡ true → AllDigits 10 digits
digits-all [] all = tt
digits-all (c ∷ digits) all =
    let parts = and_parts (is_digit c 10) (list_all (λ d. is_digit d 10) digits) all in
    (ltb-true (digit_value c) 10 parts.0, digits-all digits parts.1)

pub numeral-is : (digits : List ℕ) → is_numeral digits ≡ true → IsNumeral 10 digits
numeral-is digits is =
    let parts = and_parts (nat_lt 0 (length digits)) (list_all (λ d. is_digit d 10) digits) is in
    (ltb-true 0 (length digits) parts.0, digits-all digits parts.1)

pub is-numeral : (digits : List ℕ) → IsNumeral 10 digits → is_numeral digits ≡ true
is-numeral digits numeral =
    and_from (nat_lt 0 (length digits)) (list_all (λ d. is_digit d 10) digits) (lt-ltb 0 (length digits) numeral.0) (all-digits digits numeral.1)

-- ---- the number that digits are

abbrev is-small : List ℕ → Bool
is-small digits = nat_lt (digits_value 10 digits) (2 ^ 64)

pub number-is : (digits : List ℕ) (n : ℕ) → IsNumeral 10 digits → digits_value 10 digits < 2 ^ 64 → n ≡ digits_value 10 digits → Some n ≡ number_of digits
number-is digits n numeral small is =
    ap (λ (k : ℕ). Some k) is
    ∙ sym (cond-true (is_numeral digits && is-small digits) (Some (digits_value 10 digits)) None
    (and_from (is_numeral digits) (is-small digits) (is-numeral digits numeral) (lt-ltb (digits_value 10 digits) (2 ^ 64) small)))

pub no-number : (digits : List ℕ) → ¬ (IsNumeral 10 digits × (digits_value 10 digits < 2 ^ 64)) → None ≡ number_of digits
no-number digits not_so =
    sym (cond-false (is_numeral digits && is-small digits) (Some (digits_value 10 digits)) None (false_from_ne_true (is_numeral digits && is-small digits) (λ both.
    let parts = and_parts (is_numeral digits) (is-small digits) both in
    not_so (numeral-is digits parts.0, ltb-true (digits_value 10 digits) (2 ^ 64) parts.1))))

-- ---- what isn't UTF-8 has no number

ascii-plus : (text : List ℕ) → IsAscii (without_leading_plus text) → IsAscii text
ascii-plus [] ascii = ascii
ascii-plus (c ∷ text) ascii = elim (cases_Bool (c == 43)) [
  | inl plus ↦ IsAscii-cons c text (omega (arith, eqb-true c 43 plus)) (subst IsAscii (ap (λ (b : Bool). drop (cond b 1 0) (c ∷ text)) plus) ascii)
  | inr other ↦ subst IsAscii (ap (λ (b : Bool). drop (cond b 1 0) (c ∷ text)) other) ascii
]

pub no-text : (text : List ℕ) → ¬ (IsUtf8 text) → None ≡ number_of (without_leading_plus text)
no-text text not_so =
    no-number (without_leading_plus text) (λ numeral. not_so (IsUtf8-from_ascii text (ascii-plus text (IsAscii-from_digits (without_leading_plus text) numeral.0.1))))
