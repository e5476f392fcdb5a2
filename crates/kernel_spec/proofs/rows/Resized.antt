-- What sbrk and sbrklazy come to, case by case.
use Rattle.kernel_spec.proofs.Prelude.{ℕ, ℤ, ◌+◌, ◌-◌, ◌<◌, ◌||◌, ◌∙◌, ◌≡◌, ◌≤◌, ◌⊎◌, ap, arith, Bool, Call, cases_lt, cond, data_rights, done, false, grown, grown_lazily, Image, inl, inr, le-leb}
use Rattle.kernel_spec.proofs.Prelude.{le-ltb, lt-leb, nat_le, nat_lt, negsuc, None, none-some, Own, page_count, pos, price, refl, refused, same_Some, shrunk, SIZE_LIMIT, Some, suc, sym, true, View}
use Rattle.kernel_spec.proofs.Prelude.{with_absent, zeroed}
use Rattle.std.proofs.lemmas.Bool.{lt-ltb}
use Rattle.addr_space.proofs.Growing.{cost, later-more}
use Rattle.addr_space.proofs.PriceTo.{cost-size}
use Rattle.addr_space.proofs.Grown.{none-yet}
use Rattle.kernel_spec.specs.rows.Sizes.{resized, resized_lazily, at_size}
use Rattle.kernel_spec.proofs.rows.RowParts.{unless, grow_to, shrink_to, sbrk_by, lazy_by}

-- ---- prices

-- a growth never makes an image cheaper
pub grown-price : (i : Image) (size : ℕ) → i.size ≤ size → size ≤ SIZE_LIMIT → price i ≤ price (grown i size)
grown-price i size more limit =
    let first = page_count i.size in
    let n = page_count size - first in
    let page = zeroed data_rights in
    let start : cost (with_absent i.pages first 0 page) size ≡ price i = ap (λ m. cost m size) (none-yet i.pages first page) ∙ cost-size i.pages size i.size in
    let whole : 0 + n ≡ n = omega arith in
    omega (arith, start, later-more i.pages first 0 n size page (omega (arith, more, limit)), ap (λ m. cost (with_absent i.pages first m page) size) whole)

-- a growth that brings no page costs nothing
pub lazily-price : (i : Image) (size : ℕ) → price (grown_lazily i size) ≡ price i
lazily-price i size = cost-size i.pages size i.size

-- ---- the size

no-size : (size : ℕ) → Some size ≡ None → ⊥
no-size size e = cc

more-fits : (size n : ℕ) → size + n ≤ SIZE_LIMIT → resized size (pos n) ≡ Some (size + n)
more-fits size n fits = ap (λ (b : Bool). cond b (Some (size + n)) None) (le-leb (size + n) SIZE_LIMIT fits)

too-many : (size n : ℕ) → SIZE_LIMIT < size + n → resized size (pos n) ≡ None
too-many size n above = ap (λ (b : Bool). cond b (Some (size + n)) None) (lt-leb (size + n) SIZE_LIMIT above)

fewer-fit : (size k : ℕ) → k < size → resized size (negsuc k) ≡ Some (size - suc k)
fewer-fit size k below = ap (λ (b : Bool). cond b (Some (size - suc k)) None) (lt-ltb k size below)

too-few : (size k : ℕ) → size ≤ k → resized size (negsuc k) ≡ None
too-few size k past = ap (λ (b : Bool). cond b (Some (size - suc k)) None) (le-ltb k size past)

pub at-greater : (i : Image) (size : ℕ) → i.size ≤ size → at_size i size ≡ grown i size
at-greater i size more = ap (λ (b : Bool). cond b (shrunk i size) (grown i size)) (le-ltb size i.size more)

pub at-smaller : (i : Image) (size : ℕ) → size < i.size → at_size i size ≡ shrunk i size
at-smaller i size less = ap (λ (b : Bool). cond b (shrunk i size) (grown i size)) (lt-ltb size i.size less)

-- ---- the cases of the row

unless-first : (b d : Bool) (c : Call) (v : View) (go : Unit {0} → Own) → b ≡ true → unless (b || d) c v go ≡ refused c v
unless-first b d c v go e = ap (λ (x : Bool). unless (x || d) c v go) e

unless-second : (b d : Bool) (c : Call) (v : View) (go : Unit {0} → Own) → d ≡ true → unless (b || d) c v go ≡ refused c v
unless-second true d c v go e = refl
unless-second false d c v go e = ap (λ (x : Bool). unless x c v go) e

unless-neither : (b d : Bool) (c : Call) (v : View) (go : Unit {0} → Own) → b ≡ false → d ≡ false → unless (b || d) c v go ≡ go tt
unless-neither b d c v go not-first not-second = ap (λ (x : Bool). unless (x || d) c v go) not-first ∙ ap (λ (x : Bool). unless x c v go) not-second

module _ (c : Call) (v : View) where
  -- a size below 0 or above the limit is refused
  pub sbrk-outside : (n : ℤ) → resized v.image.size n ≡ None → sbrk_by c v n ≡ refused c v
  sbrk-outside (pos n) none = elim (cases_lt SIZE_LIMIT (v.image.size + n)) [
    | inl above ↦ unless-first (nat_lt SIZE_LIMIT (v.image.size + n)) _ c v _ (lt-ltb SIZE_LIMIT (v.image.size + n) above)
    | inr fits ↦ absurd (no-size (v.image.size + n) (sym (more-fits v.image.size n fits) ∙ none))
  ]
  sbrk-outside (negsuc k) none = elim (cases_lt k v.image.size) [
    | inl below ↦ absurd (no-size (v.image.size - suc k) (sym (fewer-fit v.image.size k below) ∙ none))
    | inr past ↦ unless-first (nat_le v.image.size k) _ c v _ (le-leb v.image.size k past)
  ]

  -- any other is a greater size, or a smaller one
  sbrk-inside : (n : ℤ) (size : ℕ) → resized v.image.size n ≡ Some size → size ≤ SIZE_LIMIT
      → ((v.image.size ≤ size) × (sbrk_by c v n ≡ grow_to c v size)) ⊎ ((size < v.image.size) × (sbrk_by c v n ≡ shrink_to c v size))
  sbrk-inside (pos n) size some limit = elim (cases_lt SIZE_LIMIT (v.image.size + n)) [
    | inl above ↦ absurd (none-some size (sym (too-many v.image.size n above) ∙ some))
    | inr fits ↦
        let e : v.image.size + n ≡ size = same_Some (v.image.size + n) size (sym (more-fits v.image.size n fits) ∙ some) in
        inl (omega (arith, e), ap (grow_to c v) e)
  ]
  sbrk-inside (negsuc k) size some limit = elim (cases_lt k v.image.size) [
    | inl below ↦
        let e : v.image.size - suc k ≡ size = same_Some (v.image.size - suc k) size (sym (fewer-fit v.image.size k below) ∙ some) in
        inr (
          omega (arith, e, below),
          unless-neither (nat_le v.image.size k) (nat_lt SIZE_LIMIT (v.image.size - suc k)) c v (λ _. shrink_to c v (v.image.size - suc k))
              (lt-leb v.image.size k below) (le-ltb SIZE_LIMIT (v.image.size - suc k) (omega (arith, e, limit)))
              ∙ ap (shrink_to c v) e,
        )
    | inr past ↦ absurd (none-some size (sym (too-few v.image.size k past) ∙ some))
  ]

  -- with this image, and so many frames free, the call is done
  abbrev resized_row : Image → ℕ → Own
  resized_row image free = done c (pos v.image.size) (record v { image = image; free = free })

  grow-done : (size free : ℕ) → v.image.size ≤ size → size ≤ SIZE_LIMIT → free + price (grown v.image size) ≡ v.free + price v.image → grow_to c v size ≡ resized_row (grown v.image size) free
  grow-done size free more limit paid =
      let frames = price (grown v.image size) - price v.image in
      let dearer = grown-price v.image size more limit in
      let left : v.free - frames ≡ free = omega (arith, paid, dearer) in
      unless-neither (nat_lt SIZE_LIMIT size) (nat_lt v.free frames) c v (λ _. resized_row (grown v.image size) (v.free - frames))
      (le-ltb SIZE_LIMIT size limit) (le-ltb v.free frames (omega (arith, paid, dearer)))
      ∙ ap (resized_row (grown v.image size)) left

  shrink-done : (size free : ℕ) → free + price (shrunk v.image size) ≡ v.free + price v.image → shrink_to c v size ≡ resized_row (shrunk v.image size) free
  shrink-done size free paid =
      let left : v.free + price v.image - price (shrunk v.image size) ≡ free = omega (arith, paid) in
      ap (resized_row (shrunk v.image size)) left

  -- the frames suffice
  pub sbrk-resized : (n : ℤ) (size free : ℕ) → resized v.image.size n ≡ Some size → size ≤ SIZE_LIMIT → free + price (at_size v.image size) ≡ v.free + price v.image
      → sbrk_by c v n ≡ done c (pos v.image.size) (record v { image = at_size v.image size; free = free })
  sbrk-resized n size free some limit paid = elim (sbrk-inside n size some limit) [
    | inl more ↦
        let at = at-greater v.image size more.0 in
        more.1 ∙ grow-done size free more.0 limit (ap (λ i. free + price i) (sym at) ∙ paid) ∙ ap (λ i. resized_row i free) (sym at)
    | inr less ↦
        let at = at-smaller v.image size less.0 in
        less.1 ∙ shrink-done size free (ap (λ i. free + price i) (sym at) ∙ paid) ∙ ap (λ i. resized_row i free) (sym at)
  ]

  -- or they don't
  pub sbrk-too-dear : (n : ℤ) (size : ℕ) → resized v.image.size n ≡ Some size → size ≤ SIZE_LIMIT → v.image.size ≤ size
      → price v.image + v.free < price (grown v.image size) → sbrk_by c v n ≡ refused c v
  sbrk-too-dear n size some limit more dear = elim (sbrk-inside n size some limit) [
    | inl row ↦ row.1 ∙ unless-second (nat_lt SIZE_LIMIT size) (nat_lt v.free (price (grown v.image size) - price v.image)) c v _
        (lt-ltb v.free (price (grown v.image size) - price v.image) (omega (arith, dear)))
    | inr row ↦ absurd (omega (arith, row.0, more))
  ]

-- ---- the cases of sbrklazy

module _ (c : Call) (v : View) where
  -- fewer bytes are refused, and a size above the limit
  pub lazy-outside : (n : ℤ) → resized_lazily v.image.size n ≡ None → lazy_by c v n ≡ refused c v
  lazy-outside (pos n) none = elim (cases_lt SIZE_LIMIT (v.image.size + n)) [
    | inl above ↦ ap (λ (b : Bool). unless b c v (λ _. done c (pos v.image.size) (record v { image = grown_lazily v.image (v.image.size + n) }))) (lt-ltb SIZE_LIMIT (v.image.size + n) above)
    | inr fits ↦ absurd (no-size (v.image.size + n) (sym (more-fits v.image.size n fits) ∙ none))
  ]
  lazy-outside (negsuc k) none = refl

  -- or the size grows
  pub lazy-inside : (n : ℤ) (size : ℕ) → resized_lazily v.image.size n ≡ Some size → lazy_by c v n ≡ done c (pos v.image.size) (record v { image = grown_lazily v.image size })
  lazy-inside (pos n) size some = elim (cases_lt SIZE_LIMIT (v.image.size + n)) [
    | inl above ↦ absurd (none-some size (sym (too-many v.image.size n above) ∙ some))
    | inr fits ↦
        let e : v.image.size + n ≡ size = same_Some (v.image.size + n) size (sym (more-fits v.image.size n fits) ∙ some) in
        ap (λ (b : Bool). unless b c v (λ _. done c (pos v.image.size) (record v { image = grown_lazily v.image (v.image.size + n) }))) (le-ltb SIZE_LIMIT (v.image.size + n) fits)
        ∙ ap (λ (k : ℕ). done c (pos v.image.size) (record v { image = grown_lazily v.image k })) e
  ]
  lazy-inside (negsuc k) size some = absurd (none-some size some)
