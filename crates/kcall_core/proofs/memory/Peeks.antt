-- A byte of an image.
use Rattle.kcall_core.proofs.Prelude.{[], ℕ, ◌%◌, ◌/◌, ◌∙◌, ◌∷◌, ◌≡◌, ap, byte_of, drop, get, get_or, Image, List, None, Option, option_map, Page, perm_of_page, refl, Rights, slice_index, Some, suc}
use Rattle.kcall_core.proofs.Prelude.{sym, take, zero}

pub byte-none : (image : Image) (va : ℕ) → get image.pages (va / 4096) ≡ None → byte_of image va ≡ None
byte-none image va e = ap (option_map (λ (page : Page). slice_index page.bytes (va % 4096))) e

first : (xs : List ℕ) → get_or (take 1 xs) 0 0 ≡ get_or xs 0 0
first [] = refl
first (x ∷ xs) = refl

at-drop : (xs : List ℕ) (i : ℕ) → get_or (drop i xs) 0 0 ≡ get_or xs i 0
at-drop xs zero = refl
at-drop [] (suc i) = refl
at-drop (x ∷ xs) (suc i) = at-drop xs i

pub byte-some : (image : Image) (va : ℕ) (page : Page) (out : List ℕ) → get image.pages (va / 4096) ≡ Some page → out ≡ take 1 (drop (va % 4096) page.bytes) → byte_of image va ≡ Some (get_or out 0 0)
byte-some image va page out e read =
    ap (option_map (λ (p : Page). slice_index p.bytes (va % 4096))) e ∙ ap Some (sym (ap (λ l. get_or l 0 0) read ∙ first (drop (va % 4096) page.bytes) ∙ at-drop page.bytes (va % 4096)))

pub some-page : (o : Option Page) (perm : Rights) → option_map perm_of_page o ≡ Some perm → (page : Page) × (o ≡ Some page)
some-page None perm e = absurd (no e)
  where
    no : None ≡ Some perm → ⊥
    no h = cc
some-page (Some page) perm e = (page, refl)
