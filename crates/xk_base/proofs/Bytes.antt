-- Writes to an image: one behind another is one, and a write inside one page changes that page.
use Rattle.std.proofs.Common.{◌≡◌, ℕ, suc, ◌+◌, ◌*◌, ◌/◌, ◌%◌, ◌<◌, ◌≤◌, List, [], ◌∷◌, ◌++◌, length, take, drop, set, Option, Some, None, inl, inr, refl, sym, ap, ◌∙◌, arith}
use Rattle.std.proofs.lemmas.Bool.{cases_eq}
use Rattle.std.proofs.lemmas.List.{take-append-drop, take_more_set, drop-set-lt, append_assoc, length-set}
use Rattle.std.specs.Option.{option_map}
use Rattle.std.specs.FinMap.{get}
use Rattle.xk_base.specs.declared.access.Rights.{Rights}
use Rattle.xk_base.specs.Image.{Page, Image, with_page}
use Rattle.xk_base.specs.Bytes.{HasPage, put_in, put_byte, write_image}
use Rattle.xk_base.proofs.Maps.{get_here, get_other, insert-twice, insert_again}

-- ---- one write behind another

pub write_image-append : (xs ys : List ℕ) (i : Image) (a : ℕ) → write_image (write_image i a xs) (a + length xs) ys ≡ write_image i a (xs ++ ys)
unfolding write_image
write_image-append [] ys i a = let e : a + 0 ≡ a = omega arith in ap (λ p. write_image i p ys) e
write_image-append (x ∷ xs) ys i a =
    let e : a + suc (length xs) ≡ a + 1 + length xs = omega arith in
    ap (λ p. write_image (write_image (put_byte i a x) (a + 1) xs) p ys) e ∙ write_image-append xs ys (put_byte i a x) (a + 1)

pub write_image-nil : (i : Image) (a : ℕ) → write_image i a [] ≡ i
unfolding write_image
write_image-nil i a = refl

-- ---- what stays

abbrev perm_of : Page → Rights
perm_of page = page.perm

perm-put : (i : Image) (v o b u : ℕ) (there : Option Page) → get i.pages v ≡ there → option_map perm_of (get (put_in i v there o b).pages u) ≡ option_map perm_of (get i.pages u)
perm-put i v o b u None e = refl
perm-put i v o b u (Some page) e = elim (cases_eq u v) [
  | inl same ↦ ap (option_map perm_of) (get_here i.pages v (record { perm = page.perm; bytes = set page.bytes o b }) u same)
      ∙ sym (ap (λ w. option_map perm_of (get i.pages w)) same ∙ ap (option_map perm_of) e)
  | inr other ↦ ap (option_map perm_of) (get_other i.pages v (record { perm = page.perm; bytes = set page.bytes o b }) u other)
]

-- a write changes no rights, and no page comes or goes
pub perm-write_image : (xs : List ℕ) (i : Image) (a u : ℕ) → option_map (λ (page : Page). page.perm) (get (write_image i a xs).pages u) ≡ option_map (λ (page : Page). page.perm) (get i.pages u)
unfolding write_image
perm-write_image [] i a u = refl
perm-write_image (x ∷ xs) i a u = perm-write_image xs (put_byte i a x) (a + 1) u ∙ perm-put i (a / 4096) (a % 4096) x u (get i.pages (a / 4096)) refl

some-perm : (o : Option Page) (r : Rights) → option_map perm_of o ≡ Some r → (page : Page) × (o ≡ Some page)
some-perm None r e = absurd (cc)
some-perm (Some page) r e = (page, refl)

pub has-write_image : (xs : List ℕ) (i : Image) (a u : ℕ) → HasPage i u → HasPage (write_image i a xs) u
has-write_image xs i a u (page, e) = some-perm (get (write_image i a xs).pages u) page.perm (perm-write_image xs i a u ∙ ap (option_map perm_of) e)

-- ---- inside one page

list-step : (xs : List ℕ) (b : ℕ) (bs : List ℕ) (at : ℕ) → at < length xs
    → take (at + 1) (set xs at b) ++ (bs ++ drop (at + 1 + length bs) (set xs at b)) ≡ take at xs ++ ((b ∷ bs) ++ drop (at + suc (length bs)) xs)
list-step xs b bs at lt =
    let e : at + 1 + length bs ≡ at + suc (length bs) = omega arith in
    ap (λ ys. ys ++ (bs ++ drop (at + 1 + length bs) (set xs at b))) (take_more_set xs at b lt)
    ∙ ap (λ ys. (take at xs ++ b ∷ []) ++ (bs ++ ys)) (drop-set-lt (at + 1 + length bs) xs at b (omega arith))
    ∙ append_assoc (take at xs) (b ∷ []) (bs ++ drop (at + 1 + length bs) xs)
    ∙ ap (λ n. take at xs ++ (b ∷ (bs ++ drop n xs))) e

abbrev page_with : Page → ℕ → List ℕ → Page
page_with page at bytes = record { perm = page.perm; bytes = take at page.bytes ++ (bytes ++ drop (at + length bytes) page.bytes) }

pub write_image-page : (bytes : List ℕ) (i : Image) (v at : ℕ) (page : Page) → get i.pages v ≡ Some page → at + length bytes ≤ length page.bytes → at + length bytes ≤ 4096
    → write_image i (4096 * v + at) bytes ≡ with_page i v (record { perm = page.perm; bytes = take at page.bytes ++ (bytes ++ drop (at + length bytes) page.bytes) })
unfolding write_image
write_image-page [] i v at page there long fits =
    let e : at + 0 ≡ at = omega arith in
    let same : page_with page at [] ≡ page = ap (λ b. record { perm = page.perm; bytes = b }) (ap (λ n. take at page.bytes ++ drop n page.bytes) e ∙ take-append-drop at page.bytes) in
    sym (ap (λ p. with_page i v p) same ∙ ap (λ m. record { pages = m; size = i.size }) (insert_again i.pages v page there))
write_image-page (b ∷ bs) i v at page there long fits =
    let quotient : (4096 * v + at) / 4096 ≡ v = omega (arith, fits) in
    let remainder : (4096 * v + at) % 4096 ≡ at = omega (arith, fits) in
    let next : 4096 * v + at + 1 ≡ 4096 * v + (at + 1) = omega arith in
    let page' : Page = record { perm = page.perm; bytes = set page.bytes at b } in
    let put : put_byte i (4096 * v + at) b ≡ with_page i v page' =
    ap (λ w. put_in i w (get i.pages w) ((4096 * v + at) % 4096) b) quotient ∙ ap (λ o. put_in i v (get i.pages v) o b) remainder ∙ ap (λ o. put_in i v o at b) there in
    ap (λ j. write_image j (4096 * v + at + 1) bs) put
    ∙ ap (λ a. write_image (with_page i v page') a bs) next
    ∙ write_image-page bs (with_page i v page') v (at + 1) page' (get_here i.pages v page' v refl) (omega (arith, length-set page.bytes at b, long)) (omega (arith, fits))
    ∙ ap (λ m. record { pages = m; size = i.size }) (insert-twice i.pages v page' (page_with page' (at + 1) bs))
    ∙ ap (λ ys. with_page i v (record { perm = page.perm; bytes = ys })) (list-step page.bytes b bs at (omega (arith, long)))
