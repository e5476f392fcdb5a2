-- What a word or a line of an exercise stands for.
use Rattle.std.proofs.Math.Bool.{and-false}
use Rattle.grade_sheets.proofs.Prelude.{[], ℕ, ◌&&◌, ◌+◌, ◌<◌, ◌==◌, ◌^◌, ◌∙◌, ◌∷◌, ◌≡◌, ◌≢◌, ◌≤◌, and_from, and_parts, ap, arith, Bool, cond, cond-false, cond-true, drop, false, false_from_ne_true}
use Rattle.grade_sheets.proofs.Prelude.{IsNumeral, is_numeral, length, List, lt-ltb, ltb-true, map, nat_lt, ne_eqb, None, position_or_len, refl, Some, suc, sym, take, true}
use Rattle.std.specs.Int.{w64}
use Rattle.std.specs.List.{position, prefix_len}
use Rattle.std.specs.Prelude.{◌||◌, ◌-◌, ℤ, pos, negsuc, not, FitsSigned, Option, IfNone, MatchOption}
use Rattle.std.specs.Str.Parse.{signed_digits_value, without_leading_sign}
use Rattle.std.proofs.Common.{Bor}
use Rattle.std.proofs.Common.{length-drop}
use Rattle.std.proofs.lemmas.List.{length-map, take_all, take-map, drop-map}
use Rattle.grade_sheets.specs.Notation.{after_mark, asking_of, before_mark, begins_with, has_mark, integer_of, is_in_64_bits, pattern_at, pattern_of_line, with_both}
use Rattle.grade_sheets.proofs.Numerals.{is-numeral, numeral-is}

-- ---- marks

begins-not : (mark : ℕ) (word : List ℕ) → ((rest : List ℕ) → word ≢ mark ∷ rest) → begins_with mark word ≡ false
begins-not mark [] other = refl
begins-not mark (b ∷ rest) other = ap (λ (t : Bool). nat_lt 0 (length (b ∷ rest)) && t) (ne_eqb b mark (λ is. other rest (ap (λ (x : ℕ). x ∷ rest) is))) ∙ and-false (nat_lt 0 (length (b ∷ rest)))

pub none-begins : (mark : ℕ) (word : List ℕ) (r : Option (Bor (List ℕ))) → MatchOption r ((rest : List ℕ) → word ≢ mark ∷ rest) (λ x. word ≡ mark ∷ x.now)
    → IfNone r (begins_with mark word ≡ false)
none-begins mark word None told = begins-not mark word told
none-begins mark word (Some x) told = tt

-- where the first of these stands at the end, none does
pub none-stands : (mark : ℕ) (word : List ℕ) → position_or_len (λ b. b == mark) word ≡ length word → has_mark mark word ≡ false
none-stands mark [] all = refl
none-stands mark (b ∷ word) all = by (b == mark) (none-stands mark word) all
  where
    by : (is : Bool) → (position_or_len (λ x. x == mark) word ≡ length word → has_mark mark word ≡ false)
        → cond (not is) (1 + position_or_len (λ x. x == mark) word) 0 ≡ suc (length word) → (is || has_mark mark word) ≡ false
    by true later all = absurd (omega (arith, all))
    by false later all = later (omega (arith, all))

pub none-parts : (mark : ℕ) (word : List ℕ) (r : Option (Bor (List ℕ) × Bor (List ℕ))) → MatchOption r (position_or_len (λ b. b == mark) word ≡ length word)
    (λ x. (position_or_len (λ b. b == mark) word < length word) × (x.0.now ≡ before_mark mark word) × (x.1.now ≡ after_mark mark word)) → IfNone r (has_mark mark word ≡ false)
none-parts mark word None told = none-stands mark word told
none-parts mark word (Some x) told = tt

-- ---- a number

in-64-bits : (z : ℤ) → FitsSigned w64 z → is_in_64_bits z ≡ true
in-64-bits (pos n) fits = lt-ltb n (2 ^ 63) fits.sfits
in-64-bits (negsuc k) fits = lt-ltb k (2 ^ 63) fits.sfits

fits-64 : (z : ℤ) → is_in_64_bits z ≡ true → FitsSigned w64 z
fits-64 (pos n) is = record { sfits = ltb-true n (2 ^ 63) is }
fits-64 (negsuc k) is = record { sfits = ltb-true k (2 ^ 63) is }

pub integer-is : (word : List ℕ) (n : ℤ) → IsNumeral 10 (without_leading_sign word) → FitsSigned w64 (signed_digits_value 10 word) → n ≡ signed_digits_value 10 word → Some n ≡ integer_of word
integer-is word n numeral fits is =
    let v = signed_digits_value 10 word in
    ap (λ (k : ℤ). Some k) is
    ∙ sym (cond-true (is_numeral (without_leading_sign word) && is_in_64_bits v) (Some v) None
    (and_from (is_numeral (without_leading_sign word)) (is_in_64_bits v) (is-numeral (without_leading_sign word) numeral) (in-64-bits v fits)))

pub no-integer : (word : List ℕ) → ¬ (IsNumeral 10 (without_leading_sign word) × FitsSigned w64 (signed_digits_value 10 word)) → None ≡ integer_of word
no-integer word not_so =
    let v = signed_digits_value 10 word in
    let is = is_numeral (without_leading_sign word) in
    sym (cond-false (is && is_in_64_bits v) (Some v) None (false_from_ne_true (is && is_in_64_bits v) (λ both.
    let parts = and_parts is (is_in_64_bits v) both in
    not_so (numeral-is (without_leading_sign word) parts.0, fits-64 v parts.1))))

-- ---- a line

pub few-words : (list : List (List ℕ)) → length list < 2 → None ≡ pattern_of_line list
few-words [] few = refl
few-words (a ∷ []) few = refl
few-words (a ∷ b ∷ list) few = absurd (omega (arith, few))

pub many-words : (list : List (List ℕ)) → 5 ≤ length list → None ≡ pattern_of_line list
many-words [] many = refl
many-words (a ∷ []) many = refl
many-words (a ∷ b ∷ []) many = absurd (omega (arith, many))
many-words (a ∷ b ∷ d ∷ []) many = absurd (omega (arith, many))
many-words (a ∷ b ∷ d ∷ e ∷ []) many = absurd (omega (arith, many))
many-words (a ∷ b ∷ d ∷ e ∷ f ∷ list) many = refl

-- ---- words before a place, and after it

abbrev texts : List (Bor (List ℕ)) → List (List ℕ)
texts ws = map (λ (w : Bor (List ℕ)). w.now) ws

prefix-map : {A B : Type 0} (f : A → B) (p : B → Bool) (xs : List A) → prefix_len p (map f xs) ≡ prefix_len (λ x. p (f x)) xs
prefix-map f p [] = refl
prefix-map f p (x ∷ xs) = ap (λ (n : ℕ). cond (p (f x)) (1 + n) 0) (prefix-map f p xs)

pub position-map : {A B : Type 0} (f : A → B) (p : B → Bool) (xs : List A) → position p (map f xs) ≡ position (λ x. p (f x)) xs
position-map f p xs =
    rw (prefix-map f (λ x. not (p x)) xs, length-map xs f) refl

rest-all : (k : ℕ) (ws : List (Bor (List ℕ))) → take (length ws - k) (drop k ws) ≡ drop k ws
rest-all k ws = take_all (length ws - k) (drop k ws) (omega (arith, length-drop k ws))

pub cut-words : (place : ℕ) (ws : List (Bor (List ℕ)))
    → with_both (pattern_of_line (texts (take place ws))) (asking_of (texts (take (length ws - (place + 1)) (drop (place + 1) ws)))) ≡ pattern_at (Some place) (texts ws)
cut-words place ws = ap (λ (given : List (Bor (List ℕ))). with_both (pattern_of_line (texts (take place ws))) (asking_of (texts given))) (rest-all (place + 1) ws)
    ∙ ap (λ (line : List (List ℕ)). with_both (pattern_of_line line) (asking_of (texts (drop (place + 1) ws)))) (sym (take-map _ place ws))
    ∙ ap (λ (given : List (List ℕ)). with_both (pattern_of_line (take place (texts ws))) (asking_of given)) (sym (drop-map _ (place + 1) ws))
