-- What the kernel may read and write for a process is what user code may; and numbers and texts, byte by byte. Absent pages read as zeros.
use Rattle.kernel_spec.proofs.Prelude.{[], ℕ, ◌%◌, ◌&&◌, ◌++◌, ◌+◌, ◌-◌, ◌/◌, ◌<◌, ◌==◌, ◌^◌, ◌∙◌, ◌∷◌, ◌≡◌, ◌≢◌, ◌≤◌, allows, and_from, and_parts, ap, arith, Bool, byte_in, cases_eq, cases_lt, Cell}
use Rattle.kernel_spec.proofs.Prelude.{cell_in, cond, ends_after, eq-eqb, false, false≢true, get, if◌then◌else◌, Image, image_byte, image_bytes, inl, inr, le, length-map-range_with_len, List}
use Rattle.kernel_spec.proofs.Prelude.{LowPages, may, may-past, ne_eqb, None, none_below, Option, option_map, Page, perm_of_page, pointer_at, reaches, reaches-fewer, reaches-none, reaches-not, refl}
use Rattle.kernel_spec.proofs.Prelude.{SIZE_LIMIT, Some, Storing as Store, suc, sym, take, take-append_seam, text_at, text_from, text_length, true, user, whole, whole-byte, whole-bytes, zero}
use Rattle.xk_base.specs.declared.access.Access.TheVariants.{Load}
use Rattle.user_copy.proofs.Texts.{text-readable}
use Rattle.kernel_spec.proofs.memory.Bringing.{may-whole, reaches-whole}
use Rattle.kernel_spec.proofs.steps.LeastPasses.{least_passes, least_least}

-- ---- one byte

abbrev pub may_read : Option Cell → Bool
may_read None = false
may_read (Some c) = c.read

abbrev pub may_write : Option Cell → Bool
may_write None = false
may_write (Some c) = c.write

abbrev pub cell_text : Option Cell → Option (List ℕ) → Option (List ℕ)
cell_text None rest = None
cell_text (Some c) rest = if c.read then text_from c.byte rest else None

shown-read : (u : Bool) (c : Cell) → (u && c.read) ≡ may_read (if u then Some c else None)
shown-read true c = refl
shown-read false c = refl

shown-write : (u : Bool) (c : Cell) → (u && c.write) ≡ may_write (if u then Some c else None)
shown-write true c = refl
shown-write false c = refl

cell-read : (o : Option Page) (k : ℕ) → allows Load (option_map perm_of_page o) ≡ may_read (cell_in o k)
cell-read None k = refl
cell-read (Some page) k = shown-read page.perm.user (record { read = page.perm.read; write = page.perm.write; execute = page.perm.execute; byte = byte_in (Some page) k })

cell-write : (o : Option Page) (k : ℕ) → allows Store (option_map perm_of_page o) ≡ may_write (cell_in o k)
cell-write None k = refl
cell-write (Some page) k = shown-write page.perm.user (record { read = page.perm.read; write = page.perm.write; execute = page.perm.execute; byte = byte_in (Some page) k })

-- the kernel may read where user code may read, and write where it may write
pub byte-read : (i : Image) (a : ℕ) → may Load i a ≡ may_read (user i a)
unfolding user
byte-read i a = cell-read (get i.pages (a / 4096)) (a % 4096)

pub byte-write : (i : Image) (a : ℕ) → may Store i a ≡ may_write (user i a)
unfolding user
byte-write i a = cell-write (get i.pages (a / 4096)) (a % 4096)

-- ---- numbers

-- no page lies there or above
pub low-read : (i : Image) (a n : ℕ) → LowPages i → 0 < n → reaches Load i a n ≡ true → a + n ≤ 2 ^ 38
low-read i a n low some fine = elim (cases_lt (2 ^ 38) (a + n)) [
  | inl high ↦ absurd (false≢true (sym (reaches-not Load i a n (n - 1) (omega (arith, some)) (may-past Load i (a + (n - 1)) low (omega (arith, high, some)))) ∙ fine))
  | inr under ↦ under
]

-- ---- texts

-- the bytes that were put before others
pub front-bytes : (i : Image) (a n : ℕ) (rest : List ℕ) → take n (image_bytes i a n ++ rest) ≡ image_bytes i a n
front-bytes i a n rest = ap (λ k. take k (image_bytes i a n ++ rest)) (sym (length-map-range_with_len (image_byte i) a n)) ∙ take-append_seam (image_bytes i a n) rest

-- the text at an address over pages that are there, without its zero byte, which is among the first `limit` bytes
unfoldable read_text : ℕ → Image → ℕ → Option (List ℕ)
read_text zero i a = None
read_text (suc limit) i a = if may Load i a then text_from (image_byte i a) (read_text limit i (a + 1)) else None

text-first : (m a : ℕ) (i : Image) → may Load i a ≡ true → read_text (suc m) i a ≡ text_from (image_byte i a) (read_text m i (a + 1))
unfolding read_text
text-first m a i is = ap (λ (b : Bool). if b then text_from (image_byte i a) (read_text m i (a + 1)) else None) is

text-stops : (m a : ℕ) (i : Image) → may Load i a ≡ false → read_text (suc m) i a ≡ None
unfolding read_text
text-stops m a i is = ap (λ (b : Bool). if b then text_from (image_byte i a) (read_text m i (a + 1)) else None) is

-- one byte more in front
reaches-first : (i : Image) (a n : ℕ) → reaches Load i a (suc n) ≡ (may Load i a && reaches Load i (a + 1) n)
unfolding reaches
reaches-first i a n = refl

at-once : (b : ℕ) (rest : Option (List ℕ)) → b ≡ 0 → text_from b rest ≡ Some []
at-once b rest e = ap (λ c. cond c (Some []) (option_map (λ bytes. b ∷ bytes) rest)) (eq-eqb b 0 e)

one-more : (b : ℕ) (rest : Option (List ℕ)) → b ≢ 0 → text_from b rest ≡ option_map (λ bytes. b ∷ bytes) rest
one-more b rest ne = ap (λ c. cond c (Some []) (option_map (λ bytes. b ∷ bytes) rest)) (ne_eqb b 0 ne)

text-there : (n limit a : ℕ) (i : Image) → n < limit → reaches Load i a (suc n) ≡ true → ((j : ℕ) → j < n → image_byte i (a + j) ≢ 0)
    → image_byte i (a + n) ≡ 0 → read_text limit i a ≡ Some (image_bytes i a n)
text-there n zero a i lt all some last = absurd (omega (arith, lt))
text-there zero (suc m) a i lt all some last =
    let here : a ≡ a + 0 = omega arith in
    let parts = and_parts (may Load i a) (reaches Load i (a + 1) 0) (sym (reaches-first i a 0) ∙ all) in
    text-first m a i parts.0 ∙ at-once (image_byte i a) (read_text m i (a + 1)) (ap (image_byte i) here ∙ last)
text-there (suc n) (suc m) a i lt all some last =
    let here : a ≡ a + 0 = omega arith in
    let parts = and_parts (may Load i a) (reaches Load i (a + 1) (suc n)) (sym (reaches-first i a (suc n)) ∙ all) in
    let next : (j : ℕ) → a + 1 + j ≡ a + suc j = λ j. omega arith in
    let rest = text-there n m (a + 1) i (omega (arith, lt)) parts.1
    (λ j below zero-byte. some (suc j) (omega (arith, below)) (sym (ap (image_byte i) (next j)) ∙ zero-byte)) (ap (image_byte i) (next n) ∙ last) in
    text-first m a i parts.0
    ∙ one-more (image_byte i a) (read_text m i (a + 1)) (λ zero-byte. some 0 (omega arith) (sym (ap (image_byte i) here) ∙ zero-byte))
    ∙ ap (option_map (λ bytes. image_byte i a ∷ bytes)) rest

-- the first byte doesn't end it, and the rest has no end
text-goes-on : (m a : ℕ) (i : Image) (b : Bool) → may Load i a ≡ b → (may Load i a ≡ true → image_byte i a ≢ 0) → (may Load i a ≡ true → read_text m i (a + 1) ≡ None) → read_text (suc m) i a ≡ None
text-goes-on m a i true is some rest = text-first m a i is ∙ one-more (image_byte i a) (read_text m i (a + 1)) (some is) ∙ ap (option_map (λ bytes. image_byte i a ∷ bytes)) (rest is)
text-goes-on m a i false is some rest = text-stops m a i is

-- no byte in sight ends the text
text-not : (limit a : ℕ) (i : Image) → ((k : ℕ) → k < limit → reaches Load i a (suc k) ≡ true → image_byte i (a + k) ≢ 0) → read_text limit i a ≡ None
unfolding read_text
text-not zero a i some = refl
text-not (suc m) a i some =
    let here : a ≡ a + 0 = omega arith in
    let next : (j : ℕ) → a + 1 + j ≡ a + suc j = λ j. omega arith in
    text-goes-on m a i (may Load i a) refl
    (λ is zero-byte. some 0 (omega arith) (reaches-first i a 0 ∙ and_from (may Load i a) (reaches Load i (a + 1) 0) is (reaches-none Load i (a + 1))) (sym (ap (image_byte i) here) ∙ zero-byte))
    (λ is. text-not m (a + 1) i (λ k lt all zero-byte. some (suc k) (omega (arith, lt))
    (reaches-first i a (suc k) ∙ and_from (may Load i a) (reaches Load i (a + 1) (suc k)) is all) (sym (ap (image_byte i) (next k)) ∙ zero-byte)))

ends-if : (i : Image) (a k : ℕ) → reaches Load i a (suc k) ≡ true → image_byte i (a + k) ≡ 0 → ends_after i a k ≡ true
ends-if i a k all is =
    let e : suc k ≡ k + 1 = omega arith in
    and_from (reaches Load i a (k + 1)) (image_byte i (a + k) == 0) (sym (ap (reaches Load i a) e) ∙ all) (eq-eqb (image_byte i (a + k)) 0 is)

read-none : (i : Image) (a limit : ℕ) → text_length i a limit ≡ None → read_text limit i a ≡ None
unfolding text_length
read-none i a limit none = text-not limit a i (λ k lt all zero-byte. false≢true (sym (none_below (ends_after i a) limit none k lt) ∙ ends-if i a k all zero-byte))

eqb-is : (b : ℕ) → (b == 0) ≡ true → b ≡ 0
eqb-is b e = elim (cases_eq b 0) [
  | inl is ↦ is
  | inr ne ↦ absurd (false≢true (sym (ne_eqb b 0 ne) ∙ e))
]

read-found : (i : Image) (a limit n : ℕ) → text_length i a limit ≡ Some n → read_text limit i a ≡ Some (image_bytes i a n)
unfolding text_length
read-found i a limit n found = by (text-readable i a limit n found)
  where
    plus : (k : ℕ) → k + 1 ≡ suc k
    plus k = omega arith

    ends : ends_after i a n ≡ true
    ends = (least_passes limit (ends_after i a) n found).0

    earlier : (j : ℕ) → j < n → ends_after i a j ≡ false
    earlier = least_least limit (ends_after i a) n found

    by : (n < limit) × (reaches Load i a (n + 1) ≡ true) → read_text limit i a ≡ Some (image_bytes i a n)
    by r =
        let all : reaches Load i a (suc n) ≡ true = sym (ap (reaches Load i a) (plus n)) ∙ r.1 in
        text-there n limit a i r.0 all
        (λ j lt zero-byte. false≢true (sym (earlier j lt) ∙ ends-if i a j (reaches-fewer Load i a (suc n) (suc j) (omega (arith, lt)) all) zero-byte))
        (eqb-is (image_byte i (a + n)) (and_parts (reaches Load i a (n + 1)) (image_byte i (a + n) == 0) ends).1)

-- ---- an image with absent pages

module _ (i : Image) (low : LowPages i) (small : i.size ≤ SIZE_LIMIT) where
  -- a text is the one that stands in the whole image
  whole-text : (limit a : ℕ) → text_at limit i a ≡ read_text limit (whole i) a
  unfolding text_at read_text
  whole-text zero a = refl
  whole-text (suc limit) a = λ k. if may-whole Load i a refl small k then text_from (sym (whole-byte i a) k) (whole-text limit (a + 1) k) else None

  pub text-found : (a limit n : ℕ) → text_length (whole i) a limit ≡ Some n → text_at limit i a ≡ Some (image_bytes (whole i) a n)
  text-found a limit n found = whole-text limit a ∙ read-found (whole i) a limit n found

  pub text-none : (a limit : ℕ) → text_length (whole i) a limit ≡ None → text_at limit i a ≡ None
  text-none a limit none = whole-text limit a ∙ read-none (whole i) a limit none

  whole-pointer : (a : ℕ) → pointer_at i a ≡ cond (reaches Load (whole i) a 8) (Some (le (image_bytes (whole i) a 8))) None
  whole-pointer a = λ k. cond (reaches-whole Load i a 8 refl small k) (Some (le (sym (whole-bytes i a 8) k))) None

  pub pointer-there : (a n : ℕ) → reaches Load (whole i) a 8 ≡ true → n ≡ le (image_bytes (whole i) a 8) → pointer_at i a ≡ Some n
  pointer-there a n fine is = whole-pointer a ∙ ap (λ b. cond b (Some (le (image_bytes (whole i) a 8))) None) fine ∙ ap Some (sym is)

  pub pointer-none : (a : ℕ) → reaches Load (whole i) a 8 ≡ false → pointer_at i a ≡ None
  pointer-none a bad = whole-pointer a ∙ ap (λ b. cond b (Some (le (image_bytes (whole i) a 8))) None) bad
