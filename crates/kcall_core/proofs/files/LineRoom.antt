-- A read of a line into a buffer: room for more bytes than the console has makes no difference.
use Rattle.kcall_core.proofs.Prelude.{ℕ, ◌++◌, ◌<◌, ◌∙◌, ◌≡◌, ◌≤◌, ap, arith, Bool, cases_lt, cond, first_bytes, inl, inr, length, length-take-le, line_length, List, lt-leb, min, prefix_len-le-length}
use Rattle.kcall_core.proofs.Prelude.{pulled, replicate, slice_get, sym, take, take-append-le, take_all, true, up_to}

-- there is room for more than the line
spare-room : (first : Bool) (n : ℕ) (bytes : List ℕ) → line_length bytes < n → pulled first n bytes ≡ up_to first bytes (line_length bytes) (slice_get bytes (line_length bytes))
spare-room first n bytes lt = ap (λ b. cond b (first_bytes n true bytes) (up_to first bytes (line_length bytes) (slice_get bytes (line_length bytes)))) (lt-leb n (line_length bytes) lt)

pulled-room : (first : Bool) (n room m : ℕ) (bytes : List ℕ) → length bytes < room → m ≡ min n room → pulled first m bytes ≡ pulled first n bytes
pulled-room first n room m bytes few is = elim (cases_lt n room) [
  | inl lt ↦ let same : m ≡ n = omega (arith, is, lt) in ap (λ k. pulled first k bytes) same
  | inr ge ↦
      let short : line_length bytes ≤ length bytes = prefix_len-le-length _ bytes in
      spare-room first m bytes (omega (arith, is, ge, few, short)) ∙ sym (spare-room first n bytes (omega (arith, ge, few, short)))
]

-- what is read into the first m bytes of a buffer of 129 zeros
pub line-pulled : (first : Bool) (n m : ℕ) (bytes : List ℕ) → length bytes ≤ 128 → m ≡ min n 129 → pulled first (length (take m (replicate {A = ℕ} 129 0))) bytes ≡ pulled first n bytes
line-pulled first n m bytes few is =
    let fits : m ≤ 129 = omega (arith, is) in
    pulled-room first n 129 (length (take m (replicate {A = ℕ} 129 0))) bytes (omega (arith, few)) (length-take-le {A = ℕ} m (replicate 129 0) fits ∙ is)

-- the bytes that were put to the front of a buffer
pub front-is : (taken : ℕ) (front rest buf : List ℕ) → taken ≡ length front → buf ≡ front ++ rest → take taken buf ≡ front
front-is taken front rest buf count is = ap (take taken) is ∙ take-append-le taken front rest (omega (arith, count)) ∙ take_all taken front (omega (arith, count))

pub front-long : (taken : ℕ) (front rest buf : List ℕ) → taken ≡ length front → buf ≡ front ++ rest → length (take taken buf) ≡ taken
front-long taken front rest buf count is = ap length (front-is taken front rest buf count is) ∙ sym count
