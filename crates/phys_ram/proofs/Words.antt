-- What a write of eight bytes leaves of the words in a frame.
use Rattle.std.proofs.Common.{◌≡◌, ◌≢◌, ℕ, zero, suc, ◌+◌, ◌*◌, ◌^◌, ◌<◌, ◌≤◌, List, [], ◌++◌, length, take, drop, set, get_or, replicate, ◌-◌, inl, inr, refl, sym, ap, ◌∙◌, arith}
use Rattle.std.proofs.lemmas.List.{get_or-set_same, get_or-set_other, get_or-drop, get_or_append_left, get_or-append_right, get_or-take, length-append, length-take-le, length-take, length-drop}
use Rattle.std.proofs.lemmas.List.{drop_at, drop_all, drop-drop, append-nil, length-set, same_lists, get_or-replicate, get_or_past, length-replicate}
use Rattle.std.proofs.lemmas.Bool.{cases_lt}
use Rattle.byteorder.specs.Endian.{little_from, little_number, little_bytes}
use Rattle.byteorder.specs.Numbers.{little_number-reads_back, length-bytes_low_first}
use borrow.Rule.Slice.PartMut.{put_mid, mid_of}
use Rattle.std.specs.Array.{AllZipBelow}
use Rattle.std.specs.List.{copy_within}
use Rattle.std.proofs.Math.Seq.{paste, paste-zero, paste-suc}
use Rattle.xk_base.specs.Words.{le}
use Rattle.xk_base.proofs.Words.{little_number-le}
use Rattle.phys_ram.specs.Ram.{frame_at, word_at, zero_frame, OthersStay, WordWritten}

-- ---- words as `byteorder` reads them

pub word_at-number : (ram : List (List ℕ)) (f i : ℕ) → word_at ram f i ≡ little_number 8 (drop (8 * i) (frame_at ram f))
unfolding word_at
word_at-number ram f i = sym (little_number-le 8 (drop (8 * i) (frame_at ram f)))

-- a word depends on its frame alone
pub word_at-same : (old new : List (List ℕ)) (g i : ℕ) → frame_at new g ≡ frame_at old g → word_at new g i ≡ word_at old g i
unfolding word_at
word_at-same old new g i e = ap (λ fr. le (take 8 (drop (8 * i) fr))) e

-- a change of one frame keeps the words of all others
pub word_at-other : (old new : List (List ℕ)) (f g i : ℕ) → OthersStay old new f → g ≢ f → word_at new g i ≡ word_at old g i
word_at-other old new f g i s apart = s.words g i apart

-- a number depends only on its bytes
pub little_from-same : (i n : ℕ) (xs ys : List ℕ) → ((k : ℕ) → i ≤ k → k < i + n → get_or xs k 0 ≡ get_or ys k 0) → little_from i n xs ≡ little_from i n ys
little_from-same i zero xs ys h = refl
little_from-same i (suc n) xs ys h =
    let first : get_or xs i 0 ≡ get_or ys i 0 = h i (omega arith) (omega arith) in
    let rest : little_from (suc i) n xs ≡ little_from (suc i) n ys = little_from-same (suc i) n xs ys (λ k lo hi. h k (omega arith) (omega arith)) in
    rw (first, rest) refl

-- ---- eight bytes replaced

-- a frame whose eight bytes from byte a on are replaced
replaced : ℕ → List ℕ → List ℕ → List ℕ
replaced a bytes frame = take a frame ++ (bytes ++ drop (a + 8) frame)

here : (i v : ℕ) (bytes frame : List ℕ) → bytes ≡ little_bytes 8 v → v < 256 ^ 8 → 8 * i ≤ length frame → little_number 8 (drop (8 * i) (replaced (8 * i) bytes frame)) ≡ v
unfolding replaced
here i v bytes frame e small fits =
    let cut : drop (8 * i) (replaced (8 * i) bytes frame) ≡ bytes ++ drop (8 * i + 8) frame =
    drop_at (take (8 * i) frame) (bytes ++ drop (8 * i + 8) frame) (8 * i) (length-take-le (8 * i) frame fits) in
    rw (cut, e) (little_number-reads_back 8 v (drop (8 * i + 8) frame) small)

below : (a k : ℕ) (bytes frame : List ℕ) → k < a → a ≤ length frame → get_or (replaced a bytes frame) k 0 ≡ get_or frame k 0
unfolding replaced
below a k bytes frame h fits =
    let len = length-take-le a frame fits in
    get_or_append_left (take a frame) (bytes ++ drop (a + 8) frame) 0 k (omega arith) ∙ get_or-take a frame k 0 h

above : (a k : ℕ) (bytes frame : List ℕ) → length bytes ≡ 8 → a + 8 ≤ k → a ≤ length frame → get_or (replaced a bytes frame) k 0 ≡ get_or frame k 0
unfolding replaced
above a k bytes frame eight h fits =
    let len = length-take-le a frame fits in
    let at : a + 8 + (k - a - 8) ≡ k = omega arith in
    get_or-append_right (take a frame) (bytes ++ drop (a + 8) frame) a k 0 len (omega arith) ∙ get_or-append_right bytes (drop (a + 8) frame) 8
    (k - a) 0 eight (omega arith) ∙ get_or-drop (a + 8) frame (k - a - 8) 0 ∙ ap (λ n. get_or frame n 0) at

length-replaced : (a : ℕ) (bytes frame : List ℕ) → length bytes ≡ 8 → a + 8 ≤ length frame → length (replaced a bytes frame) ≡ length frame
unfolding replaced
length-replaced a bytes frame eight fits =
    omega (
      arith,
      length-append (take a frame) (bytes ++ drop (a + 8) frame),
      length-append bytes (drop (a + 8) frame),
      length-take-le a frame (omega (arith, fits)),
      length-drop (a + 8) frame,
      eight,
      fits,
    )

beside : (i j : ℕ) (bytes frame : List ℕ) → length bytes ≡ 8 → 8 * i ≤ length frame → j ≢ i → little_number 8 (drop (8 * j) (replaced (8 * i) bytes frame)) ≡ little_number 8 (drop (8 * j) frame)
beside i j bytes frame eight fits apart =
    little_from-same 0 8 (drop (8 * j) (replaced (8 * i) bytes frame)) (drop (8 * j) frame)
    (λ k lo hi. get_or-drop (8 * j) (replaced (8 * i) bytes frame) k 0
    ∙ (elim (cases_lt j i) [
      | inl lt ↦ below (8 * i) (8 * j + k) bytes frame (omega arith) fits
      | inr ge ↦ above (8 * i) (8 * j + k) bytes frame eight (omega (arith, apart)) fits
    ])
    ∙ sym (get_or-drop (8 * j) frame k 0))

-- ---- one frame replaced

pub others_stay-set : (ram : List (List ℕ)) (f : ℕ) (frame : List ℕ) → OthersStay ram (set ram f frame) f
others_stay-set ram f frame =
    let others : (g : ℕ) → g ≢ f → frame_at (set ram f frame) g ≡ frame_at ram g = λ g apart. get_or-set_other ram f g frame [] apart in
    record {
      count = length-set ram f frame;
      others = others;
      words = λ g i apart. word_at-same ram (set ram f frame) g i (others g apart);
    }

word_at-set : (ram : List (List ℕ)) (f i : ℕ) (frame : List ℕ) → f < length ram → word_at (set ram f frame) f i ≡ little_number 8 (drop (8 * i) frame)
word_at-set ram f i frame inside = word_at-number (set ram f frame) f i ∙ ap (λ fr. little_number 8 (drop (8 * i) fr)) (get_or-set_same ram f frame [] inside)

pub word_written-set : (ram : List (List ℕ)) (f i v : ℕ) (bytes frame : List ℕ) → f < length ram → frame ≡ frame_at ram f → 8 * i + 8 ≤ length frame → bytes ≡ little_bytes 8 v → v < 256 ^ 8
    → WordWritten ram (set ram f (take (8 * i) frame ++ (bytes ++ drop (8 * i + 8) frame))) f i v
unfolding replaced
word_written-set ram f i v bytes frame inside is whole made small =
    let fits : 8 * i ≤ length frame = omega (arith, whole) in
    let new : frame_at (set ram f (replaced (8 * i) bytes frame)) f ≡ replaced (8 * i) bytes frame = get_or-set_same ram f (replaced (8 * i) bytes frame) [] inside in
    let eight : length bytes ≡ 8 = ap length made ∙ length-bytes_low_first 0 8 v in
    let was : (j : ℕ) → little_number 8 (drop (8 * j) frame) ≡ word_at ram f j = λ j. ap (λ fr. little_number 8 (drop (8 * j) fr)) is ∙ sym (word_at-number ram f j) in
    record {
      stay = others_stay-set ram f (replaced (8 * i) bytes frame);
      here = word_at-set ram f i (replaced (8 * i) bytes frame) inside ∙ here i v bytes frame made small fits;
      beside = λ j apart. word_at-set ram f j (replaced (8 * i) bytes frame) inside ∙ beside i j bytes frame eight fits apart ∙ was j;
      before = λ k low. ap (λ fr. get_or fr k 0) new ∙ below (8 * i) k bytes frame low fits ∙ ap (λ fr. get_or fr k 0) is;
      after = λ k past. ap (λ fr. get_or fr k 0) new ∙ above (8 * i) k bytes frame eight past fits ∙ ap (λ fr. get_or fr k 0) is;
      size = ap length new ∙ length-replaced (8 * i) bytes frame eight whole ∙ ap length is;
    }

-- the same, as a write through a slice of the frame leaves it
pub word_written-put : (ram : List (List ℕ)) (f i v n : ℕ) (buf frame : List ℕ) → f < length ram → frame ≡ frame_at ram f → 8 * i + 8 ≤ length frame → n ≡ 8
    → buf ≡ little_bytes 8 v ++ drop 8 (mid_of (8 * i) n frame) → v < 256 ^ 8 → WordWritten ram (set ram f (put_mid (8 * i) n frame buf)) f i v
word_written-put ram f i v n buf frame inside is fits eight made small =
    let none : drop 8 (mid_of (8 * i) n frame) ≡ [] = drop_all 8 (mid_of (8 * i) n frame) (simp length-take (omega arith)) in
    let bytes : buf ≡ little_bytes 8 v = made ∙ ap (λ r. little_bytes 8 v ++ r) none ∙ append-nil (little_bytes 8 v) in
    let rest : drop n (drop (8 * i) frame) ≡ drop (8 * i + 8) frame = ap (λ k. drop k (drop (8 * i) frame)) eight ∙ drop-drop 8 (8 * i) frame in
    rw rest (word_written-set ram f i v buf frame inside is (omega (arith, fits)) bytes small)

-- ---- zeros

-- a list of clones is the list
pub same_by_zip : (xs ys : List ℕ) (n : ℕ) → length xs ≡ n → AllZipBelow (λ a b. b ≡ a) xs ys n → ys ≡ xs
same_by_zip xs ys n len z =
    same_lists ys xs (z.long ∙ sym len) (λ k d h. z.at k d d (omega (arith, z.long)))

zeros-number : (i n : ℕ) (xs : List ℕ) → ((k : ℕ) → get_or xs k 0 ≡ 0) → little_from i n xs ≡ 0
zeros-number i zero xs h = refl
zeros-number i (suc n) xs h =
    let first : get_or xs i 0 ≡ 0 = h i in
    let rest : little_from (suc i) n xs ≡ 0 = zeros-number (suc i) n xs h in
    rw (first, rest) refl

-- a frame of zeros has the word 0 everywhere
pub word_at-zero : (ram : List (List ℕ)) (g j : ℕ) → frame_at ram g ≡ zero_frame → word_at ram g j ≡ 0
unfolding zero_frame
word_at-zero ram g j e =
    word_at-number ram g j ∙ ap (λ fr. little_number 8 (drop (8 * j) fr)) e ∙ zeros-number 0 8 (drop (8 * j) (replicate 4096 0)) (λ k. get_or-drop (8 * j) (replicate 4096 0) k 0 ∙ zero-at (8 * j + k))
  where
    zero-at : (k : ℕ) → get_or {A = ℕ} (replicate 4096 0) k 0 ≡ 0
    zero-at k = elim (cases_lt k 4096) [ inl lt ↦ get_or-replicate 4096 k 0 0 lt | inr ge ↦ get_or_past (replicate 4096 0) k 0 (simp length-replicate ge) ]

-- one frame copied over another
pub copy_within-one : (ram : List (List ℕ)) (from to : ℕ) → from < length ram → to < length ram → copy_within ram from (from + 1) to ≡ set ram to (frame_at ram from)
copy_within-one ram from to from_in to_in =
    let one : from + 1 - from ≡ suc zero = omega arith in
    let first : get_or (drop from ram) 0 [] ≡ get_or ram from [] = get_or-drop from ram 0 [] ∙ ap (λ k. get_or ram k []) (omega arith) in
    ap (paste ram to (drop from ram)) one ∙ sym (paste-suc ram to (drop from ram) zero [] (omega arith) (omega (arith, length-drop from ram)))
    ∙ ap (λ d. set d (to + 0) (get_or (drop from ram) 0 [])) (sym (paste-zero ram to (drop from ram))) ∙ ap (λ k. set ram k (get_or (drop from ram) 0 [])) (omega arith) ∙ ap (set ram to) first
