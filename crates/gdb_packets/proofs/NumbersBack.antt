-- A number that is written, read again, is the same.
use Rattle.std.proofs.Common.{◌≡◌, ◌∙◌, ℕ, zero, suc, ◌+◌, ◌-◌, ◌*◌, ◌/◌, ◌%◌, ◌^◌, ◌<◌, ◌≤◌, List, [], ◌∷◌}
use Rattle.std.proofs.Common.{◌++◌, Bool, true, false, refl, sym, ap, append-nil, append_assoc, Some, None, Option, arith, cond, ltb}
use Rattle.std.proofs.Math.Nat.{pow-suc}
use Rattle.std.proofs.lemmas.Bool.{lt-ltb, le-ltb, ltb-true, ltb-false}
use Rattle.gdb_packets.specs.Digits.{digit, digit_value, with_digit, number_on, number}
use Rattle.gdb_packets.specs.Numbers.{digits_in, digits, NumbersReadBack}
use Rattle.gdb_packets.proofs.SixteenDigits.{digit-value}

digits_none : (n : ℕ) → digits_in 0 n ≡ []
unfolding digits_in
digits_none n = refl

digits_suc : (most n : ℕ) → digits_in (suc most) n ≡ cond (ltb n 16) (digit n ∷ []) (digits_in most (n / 16) ++ digit (n % 16) ∷ [])
unfolding digits_in
digits_suc most n = refl

digits-next : (more most n : ℕ) → more ≡ most + 1 → digits_in more n ≡ cond (ltb n 16) (digit n ∷ []) (digits_in most (n / 16) ++ digit (n % 16) ∷ [])
digits-next more most n e = let next : more ≡ suc most = omega arith in ap (λ (m : ℕ). digits_in m n) next ∙ digits_suc most n

-- what is written of a number, by how many digits are left
pub none_more : (text : List ℕ) (most n : ℕ) → most ≡ 0 → text ≡ text ++ digits_in most n
none_more text most n none = rw (none, digits_none n) (sym (append-nil text))

pub one_more : (text : List ℕ) (most n : ℕ) → 0 < most → n < 16 → text ++ digit n ∷ [] ≡ text ++ digits_in most n
one_more text most n some small = rw (digits-next most (most - 1) n (omega arith), lt-ltb n 16 small) refl

pub last_more : (text before : List ℕ) (most n : ℕ) → 0 < most → 16 ≤ n → before ≡ text ++ digits_in (most - 1) (n / 16) → before ++ digit (n % 16) ∷ [] ≡ text ++ digits_in most n
last_more text before most n some large written =
    rw (digits-next most (most - 1) n (omega arith), le-ltb n 16 large, written) (append_assoc text (digits_in (most - 1) (n / 16)) (digit (n % 16) ∷ []))

number_on-nil : (start : Option ℕ) → number_on start [] ≡ start
number_on-nil None = refl
number_on-nil (Some n) = refl

-- one digit more behind those that are read
number_on-last : (start : Option ℕ) (xs : List ℕ) (b n : ℕ) → number_on start xs ≡ Some n → number_on start (xs ++ b ∷ []) ≡ with_digit n (digit_value b)
number_on-last None xs b n h = let none : ⊥ = cc in absurd none
number_on-last (Some m) [] b n h = let same : m ≡ n = cc in number_on-nil (with_digit m (digit_value b)) ∙ ap (λ (k : ℕ). with_digit k (digit_value b)) same
number_on-last (Some m) (x ∷ xs) b n h = number_on-last (with_digit m (digit_value x)) xs b n h

with_digit-fits : (m d n : ℕ) → m * 16 + d ≡ n → n < 2 ^ 64 → with_digit m (Some d) ≡ Some n
with_digit-fits m d n e h = rw (e, lt-ltb n (2 ^ 64) h) refl

reads-at : (most n : ℕ) → n < 2 ^ 64 → (e : Bool) → ltb n 16 ≡ e → (16 < n + 1 → number_on (Some 0) (digits_in most (n / 16)) ≡ Some (n / 16))
    → number_on (Some 0) (cond e (digit n ∷ []) (digits_in most (n / 16) ++ digit (n % 16) ∷ [])) ≡ Some n
reads-at most n fits true is before =
    let small : n < 16 = ltb-true n 16 is in
    number_on-nil (with_digit 0 (digit_value (digit n))) ∙ ap (with_digit 0) (digit-value n small).value ∙ with_digit-fits 0 n n (omega arith) fits
reads-at most n fits false is before =
    let large : 16 < n + 1 = let h = ltb-false n 16 is in omega arith in
    number_on-last (Some 0) (digits_in most (n / 16)) (digit (n % 16)) (n / 16) (before large)
    ∙ ap (with_digit (n / 16)) (digit-value (n % 16) (omega arith)).value
    ∙ with_digit-fits (n / 16) (n % 16) n (omega arith) fits

reads : (most n : ℕ) → n < 2 ^ 64 → n < 16 ^ most → number_on (Some 0) (digits_in most n) ≡ Some n
reads zero n fits small = let none : 0 ≡ n = omega arith in ap (number_on (Some 0)) (digits_none n) ∙ ap Some none
reads (suc most) n fits small =
    let below : n / 16 < 16 ^ most = let h = pow-suc 16 most in omega arith in
    ap (number_on (Some 0)) (digits_suc most n) ∙ reads-at most n fits (ltb n 16) refl (λ _. reads most (n / 16) (omega arith) below)

-- there is a digit at least
number-behind : (xs : List ℕ) (b : ℕ) → number (xs ++ b ∷ []) ≡ number_on (Some 0) (xs ++ b ∷ [])
number-behind [] b = refl
number-behind (x ∷ xs) b = refl

some-digit-at : (most n : ℕ) (e : Bool)
    → number (cond e (digit n ∷ []) (digits_in most (n / 16) ++ digit (n % 16) ∷ [])) ≡ number_on (Some 0) (cond e (digit n ∷ []) (digits_in most (n / 16) ++ digit (n % 16) ∷ []))
some-digit-at most n true = refl
some-digit-at most n false = number-behind (digits_in most (n / 16)) (digit (n % 16))

some-digit : (most n : ℕ) → number (digits_in (suc most) n) ≡ number_on (Some 0) (digits_in (suc most) n)
some-digit most n = rw (digits_suc most n) (some-digit-at most n (ltb n 16))

pub numbers-back : NumbersReadBack
unfolding digits
numbers-back n h = some-digit 15 n ∙ reads 16 n h h
