-- An image, built step by step. Only this crate's private functions speak of it.
use Rattle.std.specs.Prelude.{ℕ, ◌+◌, ◌*◌, ◌/◌, List, [], ◌∷◌, ◌++◌, length, Option, Some, None}
use Rattle.std.specs.FinMap.{get}
use Rattle.xk_base.specs.Image.{Page, Image, with_page}
use Rattle.xk_base.specs.Bytes.{write_image}
use Rattle.xk_base.specs.declared.program.Segment.{Segment}
use Rattle.xk_base.specs.Loaded.{file_bytes, down}
use Rattle.addr_space.specs.Changes.{grown, protected}
use Rattle.xk_base.specs.Access.{data_rights}

-- the image with a segment more
abbrev pub with_segment : List ℕ → Image → Segment → Image
with_segment file image s = write_image (grown image (s.vaddr + s.memsz) s.perm) s.vaddr (file_bytes file s)

abbrev pub with_segments : List ℕ → Image → List Segment → Image
with_segments file image [] = image
with_segments file image (s ∷ later) = with_segments file (with_segment file image s) later

abbrev pub protected_in : Image → ℕ → Option Page → Image
protected_in image v None = image
protected_in image v (Some page) = with_page image v (protected page)

-- the image with the guard page v, and the stack page behind it
abbrev pub with_stack : Image → ℕ → Image
with_stack image v = let mapped = grown image (4096 * (v + 2)) data_rights in protected_in mapped v (get mapped.pages v)

-- the image with these texts, each with its zero byte, below an address
abbrev pub with_texts : Image → ℕ → List (List ℕ) → Image
with_texts image top [] = image
with_texts image top (text ∷ later) = let at = down top (length text + 1) in with_texts (write_image image at (text ++ 0 ∷ [])) at later

-- the price of an image whose pages are those below n
abbrev pub price_first : ℕ → ℕ
price_first n = 1 + (n + 262143) / 262144 + (n + 511) / 512 + n
