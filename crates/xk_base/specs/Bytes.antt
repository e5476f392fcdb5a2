-- The bytes of an image by their addresses: byte o of page v stands at 4096 v + o.
use Rattle.std.specs.Prelude.{◌≡◌, ℕ, ◌+◌, ◌/◌, ◌%◌, ◌<◌, List, [], ◌∷◌, map, set, slice_index, Option, Some, None}
use Rattle.std.specs.List.{range_with_len}
use Rattle.std.specs.FinMap.{get}
use Rattle.xk_base.specs.Image.{Page, Image, with_page}

-- page v is there
abbrev pub HasPage : Image → ℕ → Type 0
HasPage image v = (page : Page) × (get image.pages v ≡ Some page)

-- each of the n bytes from an address on lies in a page that is there
abbrev pub IsMapped : Image → ℕ → ℕ → Type 0
IsMapped image a n = (k : ℕ) → k < n → HasPage image ((a + k) / 4096)

-- ---- reading

abbrev pub byte_in : Option Page → ℕ → ℕ
byte_in None o = 0
byte_in (Some page) o = slice_index page.bytes o

-- the byte at an address
abbrev pub image_byte : Image → ℕ → ℕ
image_byte image a = byte_in (get image.pages (a / 4096)) (a % 4096)

-- the n bytes from an address on
abbrev pub image_bytes : Image → ℕ → ℕ → List ℕ
image_bytes image a n = map (image_byte image) (range_with_len a n)

-- ---- writing

abbrev pub put_in : Image → ℕ → Option Page → ℕ → ℕ → Image
put_in image v None o b = image
put_in image v (Some page) o b = with_page image v (record { perm = page.perm; bytes = set page.bytes o b })

-- the image with another byte at an address, if a page is there: all other bytes, all rights and the size stay
abbrev pub put_byte : Image → ℕ → ℕ → Image
put_byte image a b = put_in image (a / 4096) (get image.pages (a / 4096)) (a % 4096) b

-- the image with these bytes from an address on
unfoldable pub write_image : Image → ℕ → List ℕ → Image
write_image image a [] = image
write_image image a (b ∷ bs) = write_image (put_byte image a b) (a + 1) bs
