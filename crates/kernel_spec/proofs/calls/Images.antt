-- What a step may do with its process's image: a page that stays has the bytes that it had, and a page that came has zeros, but for those that the step
-- stores; each byte that it stores is the one that its source has; and user code may store there.
use Rattle.kernel_spec.proofs.Prelude.{[], ℕ, ◌*◌, ◌+◌, ◌-◌, ◌/◌, ◌<◌, ◌∙◌, ◌≡◌, allows, ap, arith, get, get_or, get_or-replicate, HasWholePages, Image, image_byte, length, length-replicate, Lies}
use Rattle.kernel_spec.proofs.Prelude.{List, None, none-some, nothing_stored, Option, option_map, Page, perm_of_page, refl, replicate, same_Some, slice_index, Some, Store, Storing, subst, sym, true}
use Rattle.kernel_spec.proofs.Prelude.{write_image}
use Rattle.kernel_spec.proofs.rows.Touched.{IsTouched, new_page, new_zeros, whole_touched}
use Rattle.kernel_spec.proofs.rows.MayStore.{Allowed, AllowedTouching, may_before}
use Rattle.kernel_spec.proofs.rows.KeptBytes.{IsBut, SamePages, same_but, written_stays}
use Rattle.kernel_spec.proofs.rows.CleanPages.{NewPagesZero, write_absent}
use Rattle.kernel_spec.proofs.rows.SetBytes.{written_there}

-- no byte is stored
abbrev pub Empty : Store → Type 0
Empty s = (a : ℕ) → Lies s a → ⊥

pub nothing_empty : Empty nothing_stored
nothing_empty a lies = let high = lies.1 in omega (arith, high)

pub bytes_empty : (s : Store) → s.bytes ≡ [] → Empty s
bytes_empty s none a lies = let low = lies.0 in let high = lies.1 in omega (arith, low, high, ap (λ (xs : List ℕ). length xs) none)

-- the page has 4,096 bytes, zeros but for these
abbrev pub IsZeroBut : Store → ℕ → Page → Type 0
IsZeroBut s page y = (length y.bytes ≡ 4096) × ((i : ℕ) → i < 4096 → ¬ Lies s (page * 4096 + i) → slice_index y.bytes i ≡ 0)

-- each byte of s is there in j, if each page of i has 4,096 bytes
abbrev pub Tells : Store → Image → Image → Type 0
Tells s i j = HasWholePages i → (a : ℕ) → Lies s a → image_byte j a ≡ slice_index s.bytes (a - s.address)

-- the image i may become j by a step that stores s
pub record Images (s : Store) (i j : Image) : Type 0 where
  pub stays : (page : ℕ) (x y : Page) → length x.bytes ≡ 4096 → get i.pages page ≡ Some x → get j.pages page ≡ Some y → IsBut s page x y
  pub new : (page : ℕ) (y : Page) → get i.pages page ≡ None → get j.pages page ≡ Some y → IsZeroBut s page y
  pub told : Tells s i j

-- zeros are zeros everywhere
pub zeros_are : (s : Store) (page : ℕ) (y : Page) → y.bytes ≡ replicate 4096 0 → IsZeroBut s page y
zeros_are s page y zeros = (ap length zeros ∙ length-replicate {A = ℕ} 4096 0, λ i below apart. ap (λ (bytes : List ℕ). get_or bytes i 0) zeros ∙ get_or-replicate 4096 i 0 0 below)

-- ---- without a byte that is stored

pub images_quiet : (s : Store) (i j : Image) → Empty s → SamePages i j → NewPagesZero i j → Images s i j
images_quiet s i j empty same zeros = record {
  stays = λ page x y whole was is. same_but s page x y (same page x y was is);
  new = λ page y none is. zeros_are s page y (zeros page y none is);
  told = λ whole a lies. absurd (empty a lies);
}

-- where each page is as it was
pub images_same : (s : Store) (i j : Image) → Empty s → ((page : ℕ) → get j.pages page ≡ get i.pages page) → Images s i j
images_same s i j empty same = images_quiet s i j empty (λ page x y was is. same_Some y x (sym is ∙ same page ∙ was)) (λ page y none is. absurd (none-some y (sym none ∙ sym (same page) ∙ is)))

pub images_touched : (s : Store) (i j : Image) → Empty s → IsTouched i j → Images s i j
images_touched s i j empty touched = images_quiet s i j empty
    (λ page x y was is. same_Some y x (sym is ∙ touched.kept page x was))
    (λ page y none is. ap (λ (p : Page). p.bytes) (touched.new page y none is).1 ∙ new_zeros)

-- ---- with bytes

-- a page is there where user code may store
pub there_is : (o : Option Page) → allows Storing (option_map perm_of_page o) ≡ true → (p : Page) × (o ≡ Some p)
there_is None e = let no : ⊥ = cc in absurd no
there_is (Some p) e = (p, refl)

-- once pages are touched, as it would from before
pub images_before : (s : Store) (i k j : Image) → IsTouched i k → Images s k j → Images s i j
images_before s i k j touched h = record {
  stays = λ page x y whole was is. h.stays page x y whole (touched.kept page x was) is;
  new = λ page y none is. by page y none is (get k.pages page) refl;
  told = λ whole. h.told (whole_touched i k touched whole);
}
  where
    by : (page : ℕ) (y : Page) → get i.pages page ≡ None → get j.pages page ≡ Some y → (q : Option Page) → get k.pages page ≡ q → IsZeroBut s page y
    by page y none is None e = h.new page y e is
    by page y none is (Some x) e =
        let came = touched.new page x none e in
        let zero : IsZeroBut s page x = subst (IsZeroBut s page) (sym came.1) (zeros_are s page new_page new_zeros) in
        let but = h.stays page x y zero.0 e is in
        (but.1 ∙ zero.0, λ i below apart. but.2 i below apart ∙ zero.1 i below apart)

pub images_written : (s : Store) (i : Image) → Allowed i s → Images s i (write_image i s.address s.bytes)
images_written s i allowed = record {
  stays = λ page x y whole was is. written_stays s.bytes i s.address page x y was is;
  new = λ page y none is. absurd (none-some y (sym (write_absent s.bytes i s.address page none) ∙ is));
  told = λ whole a lies. let page = there_is (get i.pages (a / 4096)) (allowed a lies) in
      written_there s.bytes i s.address a page.0 page.1 (whole (a / 4096) page.0 page.1) lies.0 lies.1;
}

-- bytes that are written once pages are touched
pub images_stored : (s : Store) (i k : Image) → IsTouched i k → Allowed k s → Images s i (write_image k s.address s.bytes)
images_stored s i k touched allowed = images_before s i k (write_image k s.address s.bytes) touched (images_written s k allowed)

pub allowed_before : (s : Store) (i k : Image) → IsTouched i k → Allowed k s → AllowedTouching i s
allowed_before s i k touched allowed a lies = may_before i k touched a (allowed a lies)

pub allowed_none : (s : Store) (i : Image) → Empty s → AllowedTouching i s
allowed_none s i empty a lies = absurd (empty a lies)
