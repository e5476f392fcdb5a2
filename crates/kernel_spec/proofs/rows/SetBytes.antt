-- Each byte that is written, or stored by user code, is there.
use Rattle.kernel_spec.proofs.Prelude.{[], ℕ, ◌%◌, ◌++◌, ◌+◌, ◌-◌, ◌/◌, ◌<◌, ◌∙◌, ◌∷◌, ◌≡◌, ◌≤◌, ap, arith, byte_in, cases_eq, drop, get, get_or-append_right, get_or-set_same, get_or_append_left}
use Rattle.kernel_spec.proofs.Prelude.{Image, image_byte, inl, inr, insert_some, length, length-take-le, List, None, Option, Page, put_byte, put_in, set, slice_index, Some, Store, suc, sym, take}
use Rattle.kernel_spec.proofs.Prelude.{with_store, write_image, write_pages, written, written_page}
use Rattle.kernel_spec.proofs.rows.KeptBytes.{put_stays, write_stays}
use Rattle.kernel_spec.proofs.steps.MapsAfterChange.{get_same}

-- ---- a byte that is put, and bytes that are written

module _ (i : Image) (a b : ℕ) where
  -- the byte that was put, in a page of whole length
  put_there : (p : Page) → get i.pages (a / 4096) ≡ Some p → length p.bytes ≡ 4096 → image_byte (put_byte i a b) a ≡ b
  put_there p at long = by (get i.pages (a / 4096)) at
    where
      by : (o : Option Page) → o ≡ Some p → byte_in (get (put_in i (a / 4096) o (a % 4096) b).pages (a / 4096)) (a % 4096) ≡ b
      by None e = let no : ⊥ = cc in absurd no
      by (Some q) e =
          let same : q ≡ p = cc in
          let room : a % 4096 < length q.bytes = omega (arith, long, ap (λ (z : Page). length z.bytes) same) in
          ap (λ (o : Option Page). byte_in o (a % 4096)) (get_same i.pages (a / 4096) (record { perm = q.perm; bytes = set q.bytes (a % 4096) b })) ∙ get_or-set_same q.bytes (a % 4096) b 0 room

-- a byte behind those that are written is what it was
behind : (bytes : List ℕ) (i : Image) (from a : ℕ) (p : Page) → get i.pages (a / 4096) ≡ Some p → a < from → image_byte (write_image i from bytes) a ≡ image_byte i a
behind bytes i from a p at before =
    let (q, here, but) = write_stays bytes i from (a / 4096) p at in
    ap (λ (o : Option Page). byte_in o (a % 4096)) here
    ∙ but.2 (a % 4096) (omega arith) (λ l. let low = l.0 in omega (arith, low, before))
    ∙ sym (ap (λ (o : Option Page). byte_in o (a % 4096)) at)

pub written_there : (bytes : List ℕ) (i : Image) (from a : ℕ) (p : Page) → get i.pages (a / 4096) ≡ Some p → length p.bytes ≡ 4096 → from ≤ a
    → a < from + length bytes → image_byte (write_image i from bytes) a ≡ slice_index bytes (a - from)
unfolding write_image
written_there [] i from a p at long low high = absurd (omega (arith, low, high))
written_there (b ∷ bs) i from a p at long low high = elim (cases_eq a from) [
  | inl same ↦
      let (q, here, but) = put_stays i from b (a / 4096) p at in
      let first : 0 ≡ a - from = omega (arith, same) in
      behind bs (put_byte i from b) (from + 1) a q here (omega (arith, same))
      ∙ ap (image_byte (put_byte i from b)) same
      ∙ put_there i from b p (ap (λ (n : ℕ). get i.pages (n / 4096)) (sym same) ∙ at) long
      ∙ ap (slice_index (b ∷ bs)) first
  | inr other ↦
      let (q, here, but) = put_stays i from b (a / 4096) p at in
      let next : suc (a - (from + 1)) ≡ a - from = omega (arith, low, other) in
      written_there bs (put_byte i from b) (from + 1) a q here (but.1 ∙ long) (omega (arith, low, other)) (omega (arith, high))
      ∙ ap (slice_index (b ∷ bs)) next
]

-- ---- a store of user code

inside : (xs bytes : List ℕ) (o k : ℕ) → o ≤ length xs → o ≤ k → k < o + length bytes → slice_index (written xs o bytes) k ≡ slice_index bytes (k - o)
inside xs bytes o k long low high =
    get_or-append_right (take o xs) (bytes ++ drop (length bytes) (drop o xs)) o k 0 (length-take-le o xs long) low
    ∙ get_or_append_left bytes (drop (length bytes) (drop o xs)) 0 (k - o) (omega (arith, low, high))

pub store_there : (i : Image) (st : Store) (a : ℕ) (p : Page) → st.address % 4096 + length st.bytes ≤ 4096 → get i.pages (a / 4096) ≡ Some p
    → length p.bytes ≡ 4096 → st.address ≤ a → a < st.address + length st.bytes
    → image_byte (with_store i st) a ≡ slice_index st.bytes (a - st.address)
unfolding write_pages
store_there i st a p fits at long low high =
    let page : a / 4096 ≡ st.address / 4096 = omega (arith, fits, low, high) in
    let place : a % 4096 - st.address % 4096 ≡ a - st.address = omega (arith, fits, low, high) in
    ap (λ (n : ℕ). byte_in (get (with_store i st).pages n) (a % 4096)) page
    ∙ by (get i.pages (st.address / 4096)) (ap (get i.pages) (sym page) ∙ at)
    ∙ ap (slice_index st.bytes) place
  where
    by : (q : Option Page) → q ≡ Some p → byte_in (get (insert_some i.pages (st.address / 4096) (written_page q (st.address % 4096) st.bytes))
        (st.address / 4096)) (a % 4096) ≡ slice_index st.bytes (a % 4096 - st.address % 4096)
    by None e = let no : ⊥ = cc in absurd no
    by (Some q) e =
        let same : q ≡ p = cc in
        let here : length q.bytes ≡ 4096 = ap (λ (z : Page). length z.bytes) same ∙ long in
        ap (λ (x : Option Page). byte_in x (a % 4096)) (get_same i.pages (st.address / 4096) (record q { bytes = written q.bytes (st.address % 4096) st.bytes }))
        ∙ inside q.bytes st.bytes (st.address % 4096) (a % 4096) (omega (arith, here)) (omega (arith, fits, low, high)) (omega (arith, fits, low, high))
