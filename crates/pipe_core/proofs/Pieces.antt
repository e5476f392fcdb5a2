-- A ring that is read or written in two pieces.
use Rattle.std.proofs.Common.{◌≡◌, ℕ, ◌+◌, ◌-◌, ◌%◌, ◌<◌, ◌≤◌, List, [], ◌++◌, length, take, drop, get_or, min, inl, inr, sym, ap, ◌∙◌, arith}
use Rattle.std.proofs.lemmas.Bool.{cases_lt}
use Rattle.std.proofs.lemmas.List.{append-nil, drop_all, get_or-append_right, get_or-drop, get_or-take, get_or_append_left, length-append, length-drop, length-take-le, take_at}
use borrow.Rule.Slice.PartMut.{post_of, put_mid}
use Rattle.xk_base.specs.declared.limits.TheConstants.{PIPE_BYTES}
use Rattle.pipe_core.specs.Pipe.{IsPlaced, ring_byte, values_below}
use Rattle.pipe_core.proofs.Values.{values-add, values-same, values_between}

-- ---- a list xs whose k values from place a on are ys now

put_below : (a k : ℕ) (xs ys : List ℕ) (j : ℕ) → a ≤ length xs → j < a → get_or (put_mid a k xs ys) j 0 ≡ get_or xs j 0
put_below a k xs ys j fits lt =
    let len = length-take-le a xs fits in
    get_or_append_left (take a xs) (ys ++ post_of a k xs) 0 j (omega arith) ∙ get_or-take a xs j 0 lt

put_inside : (a k : ℕ) (xs ys : List ℕ) (j : ℕ) → a ≤ length xs → length ys ≡ k → j < k → get_or (put_mid a k xs ys) (a + j) 0 ≡ get_or ys j 0
put_inside a k xs ys j fits long lt =
    let len = length-take-le a xs fits in
    let here : a + j - a ≡ j = omega arith in
    get_or-append_right (take a xs) (ys ++ post_of a k xs) a (a + j) 0 len (omega arith) ∙ ap (λ m. get_or (ys ++ post_of a k xs) m 0) here ∙ get_or_append_left ys (post_of a k xs) 0 j (omega arith)

put_above : (a k : ℕ) (xs ys : List ℕ) (j : ℕ) → a ≤ length xs → length ys ≡ k → a + k ≤ j → get_or (put_mid a k xs ys) j 0 ≡ get_or xs j 0
put_above a k xs ys j fits long ge =
    let len = length-take-le a xs fits in
    let there : a + (k + (j - a - k)) ≡ j = omega arith in
    get_or-append_right (take a xs) (ys ++ post_of a k xs) a j 0 len (omega arith) ∙ get_or-append_right ys (post_of a k xs) k (j - a) 0 long (omega arith)
    ∙ get_or-drop k (drop a xs) (j - a - k) 0 ∙ get_or-drop a xs (k + (j - a - k)) 0 ∙ ap (λ m. get_or xs m 0) there

-- ---- two pieces of a ring, cut at its end

-- reading
pub pieces_read : (frame bytes p q : List ℕ) (from b m : ℕ) → length frame ≡ 4096 → from < PIPE_BYTES → length bytes ≤ PIPE_BYTES → b ≡ min (length bytes) (PIPE_BYTES - from)
    → p ≡ take b (drop (32 + from) frame) → q ≡ take (length bytes - b) (drop 32 frame) → length (drop b (p ++ drop b bytes)) ≤ m
    → take b (p ++ drop b bytes) ++ (q ++ drop m (drop b (p ++ drop b bytes))) ≡ values_below (length bytes) (ring_byte frame from)
pieces_read frame bytes p q from b m whole inside fits cut one two past =
    let n = length bytes in
    let first : values_below b (ring_byte frame from) ≡ p =
    values-same b _ (λ k. get_or frame (32 + from + k) 0) (λ k lt. ap (λ j. get_or frame j 0) (let same : 32 + (from + k) % PIPE_BYTES ≡ 32 + from + k = omega arith in same))
    ∙ values_between frame (32 + from) b (omega arith) ∙ sym one in
    let second : values_below (n - b) (λ k. ring_byte frame from (b + k)) ≡ q =
    values-same (n - b) _ (λ k. get_or frame (32 + k) 0) (λ k lt. ap (λ j. get_or frame j 0) (let same : 32 + (from + (b + k)) % PIPE_BYTES ≡ 32 + k = omega arith in same))
    ∙ values_between frame 32 (n - b) (omega arith) ∙ sym two in
    let long : length p ≡ b = ap length one ∙ length-take-le b (drop (32 + from) frame) (omega (arith, length-drop (32 + from) frame)) in
    let none : drop m (drop b (p ++ drop b bytes)) ≡ [] = drop_all m (drop b (p ++ drop b bytes)) past in
    let sum : n ≡ b + (n - b) = omega arith in
    ap (λ xs. xs ++ (q ++ drop m (drop b (p ++ drop b bytes)))) (take_at p (drop b bytes) b long)
    ∙ ap (λ xs. p ++ (q ++ xs)) none
    ∙ ap (λ xs. p ++ xs) (append-nil q)
    ∙ ap (λ xs. xs ++ q) (sym first)
    ∙ ap (λ xs. values_below b (ring_byte frame from) ++ xs) (sym second)
    ∙ sym (ap (λ k. values_below k (ring_byte frame from)) sum ∙ values-add b (n - b) (ring_byte frame from))

-- writing
pub pieces_placed : (old bytes p q : List ℕ) (from b i j : ℕ) → length old ≡ 4096 → from < PIPE_BYTES → length bytes ≤ PIPE_BYTES → b ≡ min (length bytes) (PIPE_BYTES - from)
    → p ≡ take b bytes → q ≡ drop b bytes → i ≡ length p → j ≡ length q
    → IsPlaced old (put_mid 32 j (put_mid (32 + from) i old p) q) from bytes
pieces_placed old bytes p q from b i j whole inside fits cut one two li lj =
    let n = length bytes in
    let lp : i ≡ b = li ∙ ap length one ∙ length-take-le b bytes (omega arith) in
    let lq : j ≡ n - b = lj ∙ ap length two ∙ length-drop b bytes in
    let mid = put_mid (32 + from) i old p in
    let room : 32 ≤ length mid = omega (arith, length-append (take (32 + from) old) (p ++ post_of (32 + from) i old), length-take-le (32 + from) old (omega arith)) in
    record {
      placed = λ k lt. elim (cases_lt k b) [
        | inl below ↦
            let place : 32 + (from + k) % PIPE_BYTES ≡ 32 + from + k = omega arith in
            ap (λ m. get_or (put_mid 32 j mid q) m 0) place ∙ put_above 32 j mid q (32 + from + k) room (sym lj) (omega arith)
            ∙ put_inside (32 + from) i old p k (omega arith) (sym li) (omega arith) ∙ ap (λ xs. get_or xs k 0) one ∙ get_or-take b bytes k 0 below
        | inr past ↦
            let place : 32 + (from + k) % PIPE_BYTES ≡ 32 + (k - b) = omega arith in
            let back : b + (k - b) ≡ k = omega arith in
            ap (λ m. get_or (put_mid 32 j mid q) m 0) place ∙ put_inside 32 j mid q (k - b) room (sym lj) (omega arith)
            ∙ ap (λ xs. get_or xs (k - b) 0) two ∙ get_or-drop b bytes (k - b) 0 ∙ ap (λ m. get_or bytes m 0) back
      ];
      kept = λ m free.
          let outer : get_or (put_mid 32 j mid q) m 0 ≡ get_or mid m 0 = elim (cases_lt m 32) [
            | inl below ↦ put_below 32 j mid q m room below
            | inr ge ↦ elim (cases_lt m (32 + j)) [
              | inl here ↦ absurd (free (b + (m - 32)) (omega arith) (omega arith))
              | inr past ↦ put_above 32 j mid q m room (sym lj) past
            ]
          ] in
          let inner : get_or mid m 0 ≡ get_or old m 0 = elim (cases_lt m (32 + from)) [
            | inl below ↦ put_below (32 + from) i old p m (omega arith) below
            | inr ge ↦ elim (cases_lt m (32 + from + i)) [
              | inl here ↦ absurd (free (m - 32 - from) (omega arith) (omega arith))
              | inr past ↦ put_above (32 + from) i old p m (omega arith) (sym li) past
            ]
          ] in
          outer ∙ inner;
    }
