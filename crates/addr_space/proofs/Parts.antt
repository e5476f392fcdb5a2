-- Bytes across pages, part by part.
use Rattle.addr_space.proofs.Prelude.{[], ℕ, ◌%◌, ◌++◌, ◌+◌, ◌-◌, ◌/◌, ◌<◌, ◌∙◌, ◌∷◌, ◌≡◌, ◌≤◌, ap, append-nil, append_assoc, arith, byte_in, drop, get, get_or, get_or-drop, get_or-take, Image}
use Rattle.addr_space.proofs.Prelude.{image_byte, image_bytes, length, length-drop, length-replicate, length-take-le, List, map, None, Page, range_with_len, refl, replicate, Some, suc, sym, take}
use Rattle.addr_space.proofs.Prelude.{write_image, write_image-append, zero}
use Rattle.std.proofs.Math.Seq.{take-add}
use Rattle.std.proofs.lemmas.List.FromFn.{fill_by_all, length-map-range_with_len, get_or-map-range_with_len, map-range_with_len_more}
use Rattle.std.proofs.Math.Nat.{add-zero}

-- a list that agrees with a function at each place
listed : (n v : ℕ) (f : ℕ → ℕ) (bytes : List ℕ) → length bytes ≡ n → ((k : ℕ) → k < n → f (v + k) ≡ get_or bytes k 0) → map f (range_with_len v n) ≡ bytes
listed n v f bytes long same = shifted n v f ∙ sym (fill_by_all (λ k. f (v + k)) bytes n 0 long (λ k lt. sym (same k lt)))
  where
    shifted : (n v : ℕ) (f : ℕ → ℕ) → map f (range_with_len v n) ≡ map (λ k. f (v + k)) (range_with_len 0 n)
    shifted n v f = fill_by_all (λ k. f (v + k)) (map f (range_with_len v n)) n 0 (length-map-range_with_len f v n) (λ k lt. get_or-map-range_with_len f v n k (v + k) 0 lt refl)

-- a part of one page
pub part-read : (i : Image) (a n : ℕ) (page : Page) → get i.pages (a / 4096) ≡ Some page → length page.bytes ≡ 4096 → a % 4096 + n ≤ 4096 → take n (drop (a % 4096) page.bytes) ≡ image_bytes i a n
part-read i a n page is long within =
    sym (listed n a (image_byte i) (take n (drop (a % 4096) page.bytes)) (length-take-le n (drop (a % 4096) page.bytes) (omega (arith, length-drop (a % 4096) page.bytes, long, within))) (λ k lt.
    let place : (a + k) / 4096 ≡ a / 4096 = omega (arith, lt, within) in
    let rest : (a + k) % 4096 ≡ a % 4096 + k = omega (arith, lt, within) in
    ap (λ v. byte_in (get i.pages v) ((a + k) % 4096)) place ∙ ap (λ o. byte_in o ((a + k) % 4096)) is
    ∙ ap (λ j. get_or page.bytes j 0) rest ∙ sym (get_or-take n (drop (a % 4096) page.bytes) k 0 lt ∙ get_or-drop (a % 4096) page.bytes k 0)))

zero-at : (n k : ℕ) → get_or {A = ℕ} (replicate n 0) k 0 ≡ 0
zero-at zero k = refl
zero-at (suc n) zero = refl
zero-at (suc n) (suc k) = zero-at n k

-- a part of a page that isn't there
pub part-zeros : (i : Image) (a n : ℕ) → get i.pages (a / 4096) ≡ None → a % 4096 + n ≤ 4096 → replicate n 0 ≡ image_bytes i a n
part-zeros i a n none within =
    sym (listed n a (image_byte i) (replicate n 0) (length-replicate {A = ℕ} n 0) (λ k lt.
    let place : (a + k) / 4096 ≡ a / 4096 = omega (arith, lt, within) in
    ap (λ v. byte_in (get i.pages v) ((a + k) % 4096)) place ∙ ap (λ o. byte_in o ((a + k) % 4096)) none ∙ sym (zero-at n k)))

pub length-image_bytes : (i : Image) (a n : ℕ) → length (image_bytes i a n) ≡ n
length-image_bytes i a n = length-map-range_with_len (image_byte i) a n

plus-suc : (d m : ℕ) → d + suc m ≡ d + m + 1
plus-suc d m = omega arith

suc-one : (m : ℕ) → suc m ≡ m + 1
suc-one m = omega arith

-- bytes behind bytes
pub image_bytes-append : (i : Image) (a d n : ℕ) → image_bytes i a (d + n) ≡ image_bytes i a d ++ image_bytes i (a + d) n
image_bytes-append i a d zero = ap (image_bytes i a) (add-zero d) ∙ sym (append-nil (image_bytes i a d))
image_bytes-append i a d (suc m) =
    let f : ℕ → ℕ = image_byte i in
    ap (image_bytes i a) (plus-suc d m) ∙ map-range_with_len_more f a (d + m) (a + d + m) (omega arith)
    ∙ ap (λ xs. xs ++ f (a + d + m) ∷ []) (image_bytes-append i a d m)
    ∙ append_assoc (image_bytes i a d) (image_bytes i (a + d) m) (f (a + d + m) ∷ [])
    ∙ ap (λ xs. image_bytes i a d ++ xs) (sym (map-range_with_len_more f (a + d) m (a + d + m) refl))
    ∙ ap (λ n. image_bytes i a d ++ image_bytes i (a + d) n) (sym (suc-one m))

-- what a loop has written after one part more
pub write-more : (i j k : Image) (a d n place : ℕ) (bytes : List ℕ) → j ≡ write_image i a (take d bytes) → d + n ≤ length bytes → place ≡ a + d
    → k ≡ write_image j place (take (d + n - d) (drop d bytes)) → k ≡ write_image i a (take (d + n) bytes)
write-more i j k a d n place bytes before inside at after =
    let long : length (take d bytes) ≡ d = length-take-le d bytes (omega (arith, inside)) in
    let seam : place ≡ a + length (take d bytes) = at ∙ ap (λ x. a + x) (sym long) in
    after
    ∙ ap (λ m. write_image j place (take m (drop d bytes))) (some-more d n)
    ∙ ap (λ p. write_image j p (take n (drop d bytes))) seam
    ∙ ap (λ x. write_image x (a + length (take d bytes)) (take n (drop d bytes))) before
    ∙ write_image-append (take d bytes) (take n (drop d bytes)) i a
    ∙ ap (write_image i a) (sym (take-add d n bytes))
  where
    some-more : (d n : ℕ) → d + n - d ≡ n
    some-more d n = omega arith
