-- Bytes between a pipe and other frames.
use Rattle.std.proofs.Common.{◌≡◌, ◌≢◌, ℕ, ◌+◌, ◌-◌, ◌%◌, ◌<◌, ◌≤◌, List, [], ◌++◌, length, set, take, drop, get_or, replicate, min, sym, ap, ◌∙◌, subst, arith}
use Rattle.std.proofs.lemmas.List.{get_or-set_same, get_or-set_other, set-set, length-take-le, length-drop, length-append, drop-drop, drop-take, take-take, append_assoc, take_at, drop_at}
use Rattle.std.proofs.lemmas.List.{take-replicate, drop-replicate, length-replicate}
use borrow.Rule.Slice.PartMut.{put_mid}
use Rattle.xk_base.specs.declared.limits.TheConstants.{PIPE_BYTES}
use Rattle.phys_ram.specs.Ram.{frame_at, word_at, with_bytes, WordWritten}
use Rattle.pipe_core.specs.Pipe.{Becomes, IsPipe, IsPlaced, pipe_in, ring_byte, values_below, with_more}
use Rattle.pipe_core.proofs.Values.{front, values-add, values-same, values_between}
use Rattle.pipe_core.proofs.Pieces.{pieces_placed}
use Rattle.pipe_core.proofs.Changes.{length-bytes, pushes}

-- ---- n bytes of a frame, the first b of them and the others

first_piece : (n b at : ℕ) (xs : List ℕ) → b ≤ n → take b (drop at xs) ≡ take b (take n (drop at xs))
first_piece n b at xs le = sym (take-take b n (drop at xs) le)

second_piece : (n b at : ℕ) (xs : List ℕ) → b ≤ n → take (n - b) (drop (at + b) xs) ≡ drop b (take n (drop at xs))
second_piece n b at xs le =
    let sum : b + (n - b) ≡ n = omega (arith, le) in
    ap (take (n - b)) (sym (drop-drop b at xs)) ∙ sym (drop-take b (n - b) (drop at xs)) ∙ ap (λ k. drop b (take k (drop at xs))) sum

-- ---- bytes written over those of a frame

as_put : (a : ℕ) (ys xs : List ℕ) → with_bytes a ys xs ≡ put_mid a (length ys) xs ys
as_put a ys xs = ap (λ rest. take a xs ++ (ys ++ rest)) (sym (drop-drop (length ys) a xs))

-- two writes, the second behind the first, are one
with_bytes-append : (a : ℕ) (xs ys zs : List ℕ) → a ≤ length zs → with_bytes (a + length xs) ys (with_bytes a xs zs) ≡ with_bytes a (xs ++ ys) zs
with_bytes-append a xs ys zs le =
    let before = take a zs in
    let behind = drop (a + length xs) zs in
    let cut : length before ≡ a = length-take-le a zs le in
    let long : length (before ++ xs) ≡ a + length xs = omega (arith, cut, length-append before xs) in
    let apart : with_bytes a xs zs ≡ (before ++ xs) ++ behind = sym (append_assoc before xs behind) in
    let kept : take (a + length xs) (with_bytes a xs zs) ≡ before ++ xs = ap (take (a + length xs)) apart ∙ take_at (before ++ xs) behind (a + length xs) long in
    let left : drop (a + length xs) (with_bytes a xs zs) ≡ behind = ap (drop (a + length xs)) apart ∙ drop_at (before ++ xs) behind (a + length xs) long in
    let sum : a + length xs + length ys ≡ a + length (xs ++ ys) = omega (arith, length-append xs ys) in
    let rest : drop (a + length xs + length ys) (with_bytes a xs zs) ≡ drop (a + length (xs ++ ys)) zs =
    sym (drop-drop (length ys) (a + length xs) (with_bytes a xs zs)) ∙ ap (drop (length ys)) left ∙ drop-drop (length ys) (a + length xs) zs ∙ ap (λ k. drop k zs) sum in
    (λ k. kept k ++ (ys ++ rest k))
    ∙ append_assoc before xs (ys ++ drop (a + length (xs ++ ys)) zs)
    ∙ ap (λ r. before ++ r) (sym (append_assoc xs ys (drop (a + length (xs ++ ys)) zs)))

-- a frame is written twice
written_twice : (r0 r1 r2 : List (List ℕ)) (f : ℕ) (x y : List ℕ) → f < length r0 → r1 ≡ set r0 f x → r2 ≡ set r1 f y → (r2 ≡ set r0 f y) × (frame_at r1 f ≡ x) × (frame_at r2 f ≡ y)
written_twice r0 r1 r2 f x y inside one two =
    let both : r2 ≡ set r0 f y = two ∙ ap (λ r. set r f y) one ∙ set-set r0 f x y in
    (both, ap (λ r. frame_at r f) one ∙ get_or-set_same r0 f x [] inside, ap (λ r. frame_at r f) both ∙ get_or-set_same r0 f y [] inside)

-- ---- bytes go into the ring, in two pieces

pub pieces_pushed : (r0 r1 r2 new : List (List ℕ)) (f first count from b n : ℕ) (p q bytes : List ℕ) → IsPipe r0 f → length (frame_at r0 f) ≡ 4096
    → first ≡ word_at r0 f 2 → count ≡ length (pipe_in r0 f).bytes → from ≡ (first + count) % PIPE_BYTES → length bytes ≡ n → n + count ≤ PIPE_BYTES → b ≡ min n (PIPE_BYTES - from)
    → p ≡ take b bytes → q ≡ drop b bytes → r1 ≡ set r0 f (with_bytes (32 + from) p (frame_at r0 f)) → r2 ≡ set r1 f (with_bytes 32 q (frame_at r1 f)) → WordWritten r2 new f 3 (count + n)
    → Becomes r0 new f (with_more bytes (pipe_in r0 f))
pieces_pushed r0 r1 r2 new f first count from b n p q bytes pipe whole one two place long room cut is_p is_q w1 w2 written =
    let old = frame_at r0 f in
    let three : count ≡ word_at r0 f 3 = two ∙ length-bytes r0 f in
    let mid = with_bytes (32 + from) p old in
    let twice = written_twice r0 r1 r2 f mid (with_bytes 32 q (frame_at r1 f)) pipe.inside w1 w2 in
    let after : frame_at r2 f ≡ put_mid 32 (length q) (put_mid (32 + from) (length p) old p) q =
    twice.2 ∙ ap (with_bytes 32 q) (twice.1 ∙ as_put (32 + from) p old) ∙ as_put 32 q (put_mid (32 + from) (length p) old p) in
    let low : from < PIPE_BYTES = omega (arith, place) in
    let fits : length bytes ≤ PIPE_BYTES = omega (arith, long, room) in
    let piece : b ≡ min (length bytes) (PIPE_BYTES - from) = cut ∙ ap (λ k. min k (PIPE_BYTES - from)) (sym long) in
    let put = pieces_placed old bytes p q from b (length p) (length q) whole low fits piece is_p is_q (λ _. length p) (λ _. length q) in
    let where_is : from ≡ (word_at r0 f 2 + word_at r0 f 3) % PIPE_BYTES = place ∙ (λ k. (one k + three k) % PIPE_BYTES) in
    let put_there : IsPlaced old (frame_at r2 f) ((word_at r0 f 2 + word_at r0 f 3) % PIPE_BYTES) bytes =
    subst (λ a. IsPlaced old (frame_at r2 f) a bytes) where_is (subst (λ r. IsPlaced old r from bytes) (sym after) put) in
    let counted : WordWritten r2 new f 3 (word_at r0 f 3 + length bytes) = subst (λ k. WordWritten r2 new f 3 k) (λ k. three k + sym long k) written in
    pushes r0 r2 new f (frame_at r2 f) bytes pipe (twice.0 ∙ ap (set r0 f) (sym twice.2)) (omega (arith, long, three, room)) put_there counted

-- ---- bytes are read out of the ring, in two pieces

ring_pieces : (frame : List ℕ) (from n b : ℕ) → length frame ≡ 4096 → from < PIPE_BYTES → n ≤ PIPE_BYTES → b ≡ min n (PIPE_BYTES - from)
    → values_below n (ring_byte frame from) ≡ take b (drop (32 + from) frame) ++ take (n - b) (drop 32 frame)
ring_pieces frame from n b whole inside fits cut =
    let first : values_below b (ring_byte frame from) ≡ take b (drop (32 + from) frame) =
    values-same b _ (λ k. get_or frame (32 + from + k) 0) (λ k lt. ap (λ j. get_or frame j 0) (let same : 32 + (from + k) % PIPE_BYTES ≡ 32 + from + k = omega arith in same))
    ∙ values_between frame (32 + from) b (omega arith) in
    let second : values_below (n - b) (λ k. ring_byte frame from (b + k)) ≡ take (n - b) (drop 32 frame) =
    values-same (n - b) _ (λ k. get_or frame (32 + k) 0) (λ k lt. ap (λ j. get_or frame j 0) (let same : 32 + (from + (b + k)) % PIPE_BYTES ≡ 32 + k = omega arith in same))
    ∙ values_between frame 32 (n - b) (omega arith) in
    let sum : n ≡ b + (n - b) = omega arith in
    ap (λ k. values_below k (ring_byte frame from)) sum ∙ values-add b (n - b) (ring_byte frame from) ∙ (λ k. first k ++ second k)

-- the n bytes of a pipe from number skip on, in the ring
bytes_from : (ram : List (List ℕ)) (f skip n : ℕ) → skip + n ≤ word_at ram f 3
    → take n (drop skip (pipe_in ram f).bytes) ≡ values_below n (ring_byte (frame_at ram f) ((word_at ram f 2 + skip) % PIPE_BYTES))
unfolding pipe_in
bytes_from ram f skip n le =
    let count = word_at ram f 3 in
    let first = word_at ram f 2 in
    let ring = ring_byte (frame_at ram f) first in
    ap (take n) (front skip count ring (omega (arith, le))).1
    ∙ (front n (count - skip) (λ k. ring (skip + k)) (omega (arith, le))).0
    ∙ values-same n _ _ (λ k lt. ap (λ m. get_or (frame_at ram f) (32 + m) 0) (let same : (first + (skip + k)) % PIPE_BYTES ≡ ((first + skip) % PIPE_BYTES + k) % PIPE_BYTES = omega arith in same))

pub pieces_copied : (r0 r1 r2 : List (List ℕ)) (f to first from skip at b n : ℕ) → IsPipe r0 f → to < length r0 → to ≢ f → length (frame_at r0 f) ≡ 4096 → length (frame_at r0 to) ≡ 4096
    → first ≡ word_at r0 f 2 → skip + n ≤ length (pipe_in r0 f).bytes → from ≡ (first + skip) % PIPE_BYTES → b ≡ min n (PIPE_BYTES - from) → at + n ≤ 4096
    → r1 ≡ set r0 to (with_bytes at (take b (drop (32 + from) (frame_at r0 f))) (frame_at r0 to))
    → r2 ≡ set r1 to (with_bytes (at + b) (take (n - b) (drop 32 (frame_at r1 f))) (frame_at r1 to))
    → r2 ≡ set r0 to (with_bytes at (take n (drop skip (pipe_in r0 f).bytes)) (frame_at r0 to))
pieces_copied r0 r1 r2 f to first from skip at b n pipe inside apart whole target one room place cut fits w1 w2 =
    let ring = frame_at r0 f in
    let old = frame_at r0 to in
    let p = take b (drop (32 + from) ring) in
    let q = take (n - b) (drop 32 ring) in
    let stays : frame_at r1 f ≡ ring = ap (λ r. frame_at r f) w1 ∙ get_or-set_other r0 to f (with_bytes at p old) [] (λ e. apart (sym e)) in
    let twice = written_twice r0 r1 r2 to (with_bytes at p old) (with_bytes (at + b) (take (n - b) (drop 32 (frame_at r1 f))) (frame_at r1 to)) inside w1 w2 in
    let low : from < PIPE_BYTES = omega (arith, place) in
    let few : n ≤ PIPE_BYTES = omega (arith, room, length-bytes r0 f, pipe.count) in
    let long : length p ≡ b = length-take-le b (drop (32 + from) ring) (omega (arith, length-drop (32 + from) ring, whole, cut, low)) in
    let both : p ++ q ≡ take n (drop skip (pipe_in r0 f).bytes) =
    sym (ring_pieces ring from n b whole low few cut) ∙ ap (λ a. values_below n (ring_byte ring a)) (place ∙ ap (λ a. (a + skip) % PIPE_BYTES) one)
    ∙ sym (bytes_from r0 f skip n (omega (arith, room, length-bytes r0 f))) in
    twice.0
    ∙ ap (set r0 to)
    ((λ k. with_bytes (at + b) (take (n - b) (drop 32 (stays k))) (twice.1 k)) ∙ ap (λ a. with_bytes (at + a) q (with_bytes at p old)) (sym long)
    ∙ with_bytes-append at p q old (omega (arith, target, fits)) ∙ ap (λ xs. with_bytes at xs old) both)

-- ---- the same of numbers that were read

module _ (r0 r1 r2 new : List (List ℕ)) (f first count from b n : ℕ) (pipe : IsPipe r0 f) (whole : length (frame_at r0 f) ≡ 4096)
    (one : first ≡ word_at r0 f 2) (two : count ≡ length (pipe_in r0 f).bytes) (place : from ≡ (first + count) % PIPE_BYTES)
    (room : length (pipe_in r0 f).bytes + n ≤ PIPE_BYTES) (cut : b ≡ min n (PIPE_BYTES - from)) where
  -- of another frame
  pub part_pushed : (source at : ℕ) → source ≢ f → length (frame_at r0 source) ≡ 4096 → at + n ≤ 4096
      → r1 ≡ set r0 f (with_bytes (32 + from) (take b (drop at (frame_at r0 source))) (frame_at r0 f))
      → r2 ≡ set r1 f (with_bytes 32 (take (n - b) (drop (at + b) (frame_at r1 source))) (frame_at r1 f)) → WordWritten r2 new f 3 (count + n)
      → Becomes r0 new f (with_more (take n (drop at (frame_at r0 source))) (pipe_in r0 f))
  part_pushed source at apart full fits w1 w2 written =
      let xs = frame_at r0 source in
      let less : b ≤ n = omega (arith, cut) in
      let stays : frame_at r1 source ≡ xs = ap (λ r. frame_at r source) w1 ∙ get_or-set_other r0 f source (with_bytes (32 + from) (take b (drop at xs)) (frame_at r0 f)) [] apart in
      let long : length (take n (drop at xs)) ≡ n = length-take-le n (drop at xs) (omega (arith, length-drop at xs, full, fits)) in
      pieces_pushed r0 r1 r2 new f first count from b n (take b (drop at xs)) (take (n - b) (drop (at + b) (frame_at r1 source)))
      (take n (drop at xs)) pipe whole one two place long (omega (arith, room, two)) cut
      (first_piece n b at xs less) (ap (λ ys. take (n - b) (drop (at + b) ys)) stays ∙ second_piece n b at xs less) w1 w2 written

  -- zeros
  pub zeros_pushed : r1 ≡ set r0 f (with_bytes (32 + from) (replicate b 0) (frame_at r0 f)) → r2 ≡ set r1 f (with_bytes 32 (replicate (n - b) 0) (frame_at r1 f)) → WordWritten r2 new f 3 (count + n)
      → Becomes r0 new f (with_more (replicate n 0) (pipe_in r0 f))
  zeros_pushed w1 w2 written =
      pieces_pushed r0 r1 r2 new f first count from b n (replicate b 0) (replicate (n - b) 0) (replicate n 0) pipe whole one two place (length-replicate {A = ℕ} n 0) (omega (arith, room, two)) cut
      (sym (take-replicate b n 0 (omega (arith, cut)))) (sym (drop-replicate b n 0)) w1 w2 written
