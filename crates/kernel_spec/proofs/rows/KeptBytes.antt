-- What stays of the pages of an image: but for the bytes that are written, all; and all where it grows or shrinks.
use Rattle.kernel_spec.proofs.Prelude.{[], ℕ, ◌%◌, ◌*◌, ◌++◌, ◌+◌, ◌-◌, ◌/◌, ◌<◌, ◌∙◌, ◌∷◌, ◌≡◌, ◌≢◌, ◌≤◌, after, ap, arith, Bool, cases_eq, cases_lt, cond, data_rights, drop, false, FinMap, first}
use Rattle.kernel_spec.proofs.Prelude.{gathered-get, get, get_or-append_right, get_or-drop, get_or-set_other, get_or-take, get_or_append_left, grown, Image, inl, inr, insert, insert_some, is_some}
use Rattle.kernel_spec.proofs.Prelude.{length, length-set, length-take-le, Lies, List, nat_cmp, nat_lt, None, Option, Page, page_count, put_byte, put_in, refl, same_Some, set, shrunk, slice_index}
use Rattle.kernel_spec.proofs.Prelude.{Some, Store, subst, suc, sym, take, there, true, whole, with_absent, with_store, write_image, write_pages, written, written_page, zero, zeroed}
use Rattle.rv64i_core.proofs.FlatBytes.{length-written}
use Rattle.kernel_spec.proofs.steps.MapsAfterChange.{get_same, get_other}

-- ---- what a step may change

-- the page is the other one, but for these bytes
abbrev pub IsBut : Store → ℕ → Page → Page → Type 0
IsBut s page x y = (y.perm ≡ x.perm) × (length y.bytes ≡ length x.bytes) × ((i : ℕ) → i < 4096 → ¬ Lies s (page * 4096 + i) → slice_index y.bytes i ≡ slice_index x.bytes i)

-- pages that stay are as they were, but for these bytes
abbrev Stay : Store → Image → Image → Type 0
Stay s before after = (page : ℕ) (x y : Page) → get before.pages page ≡ Some x → get after.pages page ≡ Some y → IsBut s page x y

-- no byte of a page that stays changes
abbrev pub SamePages : Image → Image → Type 0
SamePages before after = (page : ℕ) (x y : Page) → get before.pages page ≡ Some x → get after.pages page ≡ Some y → y ≡ x

pub same_but : (s : Store) (page : ℕ) (x y : Page) → y ≡ x → IsBut s page x y
same_but s page x y e = (ap (λ (p : Page). p.perm) e, ap (λ (p : Page). length p.bytes) e, λ i below apart. ap (λ (p : Page). slice_index p.bytes i) e)

-- ---- bytes put one by one

-- the page is there, and the other one but for these bytes
abbrev pub ThereBut : FinMap nat_cmp Page → Store → ℕ → Page → Type 0
ThereBut m s page x = (y : Page) × (get m page ≡ Some y) × IsBut s page x y

pub put_stays : (i : Image) (a b page : ℕ) (x : Page) → get i.pages page ≡ Some x → ThereBut (put_byte i a b).pages (record { address = a; bytes = b ∷ [] }) page x
put_stays i a b page x at = by (get i.pages (a / 4096)) refl
  where
    by : (o : Option Page) → get i.pages (a / 4096) ≡ o → ThereBut (put_in i (a / 4096) o (a % 4096) b).pages (record { address = a; bytes = b ∷ [] }) page x
    by None e = (x, at, same_but (record { address = a; bytes = b ∷ [] }) page x x refl)
    by (Some p) e = elim (cases_eq page (a / 4096)) [
      | inl same ↦
          let is : p ≡ x = same_Some p x (sym e ∙ ap (get i.pages) (sym same) ∙ at) in (
            record { perm = p.perm; bytes = set p.bytes (a % 4096) b },
            ap (get (insert i.pages (a / 4096) (record { perm = p.perm; bytes = set p.bytes (a % 4096) b }))) same ∙ get_same i.pages (a / 4096) _,
            (
              ap (λ (q : Page). q.perm) is,
              length-set p.bytes (a % 4096) b
                  ∙ ap (λ (q : Page). length q.bytes) is,
              λ k below apart. get_or-set_other p.bytes (a % 4096) k b 0
                  (λ here. apart (omega (arith, same, here), omega (arith, same, here))) ∙ ap (λ (q : Page). slice_index q.bytes k) is,
            ),
          )
      | inr other ↦ (x, get_other i.pages (a / 4096) _ page other ∙ at, same_but (record { address = a; bytes = b ∷ [] }) page x x refl)
    ]

pub write_stays : (bytes : List ℕ) (i : Image) (a page : ℕ) (x : Page) → get i.pages page ≡ Some x → ThereBut (write_image i a bytes).pages (record { address = a; bytes = bytes }) page x
unfolding write_image
write_stays [] i a page x at = (x, at, same_but (record { address = a; bytes = [] }) page x x refl)
write_stays (b ∷ bs) i a page x at =
    let (y, here, first) = put_stays i a b page x at in
    let (z, there, others) = write_stays bs (put_byte i a b) (a + 1) page y here in (
      z,
      there,
      (
        others.0 ∙ first.0,
        others.1 ∙ first.1,
        λ k below apart. others.2 k below (λ l. let low = l.0 in let high = l.1 in apart (omega (arith, low), omega (arith, high)))
            ∙ first.2 k below (λ l. let low = l.0 in let high = l.1 in apart (omega (arith, low), omega (arith, high))),
      ),
    )

pub written_stays : (bytes : List ℕ) (i : Image) (a : ℕ) → Stay (record { address = a; bytes = bytes }) i (write_image i a bytes)
written_stays bytes i a page x y was is =
    let (z, there, but) = write_stays bytes i a page x was in
    let same : z ≡ y = same_Some z y (sym there ∙ is) in
    subst (λ (p : Page). IsBut (record { address = a; bytes = bytes }) page x p) same but

-- ---- a store of user code

-- an index outside the bytes that are put into a list
left_of : (xs : List ℕ) (o k : ℕ) (bytes : List ℕ) → o ≤ length xs → k < o → slice_index (written xs o bytes) k ≡ slice_index xs k
left_of xs o k bytes long below = get_or_append_left (take o xs) (bytes ++ drop (length bytes) (drop o xs)) 0 k (omega (arith, length-take-le o xs long, below)) ∙ get_or-take o xs k 0 below

right_of : (xs : List ℕ) (o k : ℕ) (bytes : List ℕ) → o ≤ length xs → o + length bytes ≤ k → slice_index (written xs o bytes) k ≡ slice_index xs k
right_of xs o k bytes long behind =
    let there : o + (length bytes + (k - o - length bytes)) ≡ k = omega (arith, behind) in
    get_or-append_right (take o xs) (bytes ++ drop (length bytes) (drop o xs)) o k 0 (length-take-le o xs long) (omega (arith, behind))
    ∙ get_or-append_right bytes (drop (length bytes) (drop o xs)) (length bytes) (k - o) 0 refl (omega (arith, behind))
    ∙ get_or-drop (length bytes) (drop o xs) (k - o - length bytes) 0
    ∙ get_or-drop o xs (length bytes + (k - o - length bytes)) 0
    ∙ ap (slice_index xs) there

module _ (i : Image) (st : Store) (page : ℕ) (fits : st.address % 4096 + length st.bytes ≤ 4096) where
  abbrev at : ℕ
  at = st.address / 4096

  abbrev o : ℕ
  o = st.address % 4096

  abbrev these : Store
  these = record { address = st.address; bytes = st.bytes }

  outside : (p : Page) (k : ℕ) → o ≤ length p.bytes → page ≡ at → ¬ Lies these (page * 4096 + k) → slice_index (written p.bytes o st.bytes) k ≡ slice_index p.bytes k
  outside p k long same apart = elim (cases_lt k o) [
    | inl below ↦ left_of p.bytes o k st.bytes long below
    | inr above ↦ elim (cases_lt k (o + length st.bytes)) [
      | inl inside ↦ absurd (apart (omega (arith, same, above), omega (arith, same, inside)))
      | inr behind ↦ right_of p.bytes o k st.bytes long behind
    ]
  ]

  stores_in : (q : Option Page) (x y : Page) → length x.bytes ≡ 4096 → get i.pages page ≡ Some x → get i.pages at ≡ q
      → get (insert_some i.pages at (written_page q o st.bytes)) page ≡ Some y → IsBut these page x y
  stores_in None x y whole was e found = same_but these page x y (same_Some y x (sym found ∙ was))
  stores_in (Some p) x y whole was e found = elim (cases_eq page at) [
    | inl same ↦
        let same_one : p ≡ x = same_Some p x (sym e ∙ ap (get i.pages) (sym same) ∙ was) in
        let new : record p { bytes = written p.bytes o st.bytes } ≡ y =
        same_Some (record p { bytes = written p.bytes o st.bytes }) y
        (sym (ap (get (insert i.pages at (record p { bytes = written p.bytes o st.bytes }))) same
        ∙ get_same i.pages at (record p { bytes = written p.bytes o st.bytes })) ∙ found) in
        let full : length p.bytes ≡ 4096 = ap (λ (z : Page). length z.bytes) same_one ∙ whole in
        let long : o ≤ length p.bytes = omega (arith, full) in (
          ap (λ (z : Page). z.perm) (sym new) ∙ ap (λ (z : Page). z.perm) same_one,
          ap (λ (z : Page). length z.bytes) (sym new)
              ∙ length-written p.bytes o st.bytes (omega (arith, fits, full))
              ∙ ap (λ (z : Page). length z.bytes) same_one,
          λ k below apart. ap (λ (z : Page). slice_index z.bytes k) (sym new)
              ∙ outside p k long same apart ∙ ap (λ (z : Page). slice_index z.bytes k) same_one,
        )
    | inr other ↦ same_but these page x y (same_Some y x (sym found ∙ get_other i.pages at (record p { bytes = written p.bytes o st.bytes }) page other ∙ was))
  ]

-- so it is of a page of 4,096 bytes
pub store_stays : (i : Image) (st : Store) → st.address % 4096 + length st.bytes ≤ 4096 → (page : ℕ) (x y : Page) → length x.bytes ≡ 4096
    → get i.pages page ≡ Some x → get (with_store i st).pages page ≡ Some y → IsBut (record { address = st.address; bytes = st.bytes }) page x y
unfolding write_pages
store_stays i st fits page x y whole was is = stores_in i st page fits (get i.pages (st.address / 4096)) x y whole was refl is

-- ---- sbrk: what stays is as it was

kept_page : (b : Bool) (m : FinMap nat_cmp Page) (v q : ℕ) (page x : Page) → is_some (get m v) ≡ b → get m q ≡ Some x → get (cond b m (insert m v page)) q ≡ Some x
kept_page true m v q page x none at = at
kept_page false m v q page x none at = get_other m v page q apart ∙ at
  where
    apart : q ≢ v
    apart e = let there : true ≡ false = sym (ap is_some (ap (get m) (sym e) ∙ at)) ∙ none in let no : ⊥ = cc in no

grown_keeps : (m : FinMap nat_cmp Page) (first n : ℕ) (page : Page) (q : ℕ) (x : Page) → get m q ≡ Some x → get (with_absent m first n page) q ≡ Some x
unfolding with_absent
grown_keeps m first zero page q x at = at
grown_keeps m first (suc n) page q x at = kept_page (is_some (get (with_absent m first n page) (first + n))) (with_absent m first n page) (first + n) q page x refl (grown_keeps m first n page q x at)

pub grown_same : (i : Image) (size : ℕ) → SamePages i (grown i size)
grown_same i size page x y was is = same_Some y x (sym is ∙ grown_keeps i.pages (page_count i.size) (page_count size - page_count i.size) (zeroed data_rights) page x was)

pub shrunk_same : (i : Image) (size : ℕ) → SamePages i (shrunk i size)
shrunk_same i size page x y was is = same_Some y x (sym (cut (nat_lt page (page_count size)) (get i.pages page) (sym (gathered-get (get i.pages) (page_count size) page) ∙ is)) ∙ was)
  where
    cut : (b : Bool) (o : Option Page) → cond b o None ≡ Some y → o ≡ Some y
    cut true o e = e
    cut false o e = let no : ⊥ = cc in absurd no
