-- Pages that are absent: they lie below the size, and are not there. A process that grew lazily has them, and they come, as zeros, when they are touched
-- (xv6 book, "Page tables" and "Traps and system calls": page-fault exceptions and lazy allocation).
use Rattle.std.specs.Prelude.{ℕ, ◌*◌, ◌/◌, ◌^◌, ◌&&◌, Bool, not, nat_eq, nat_lt, is_some, if◌then◌else◌, List, [], ◌∷◌, map}
use Rattle.std.specs.List.{list_any, range_with_len}
use Rattle.std.specs.FinMap.{get}
use Rattle.xk_base.specs.Access.{data_rights}
use Rattle.xk_base.specs.Image.{Image, with_page}
use Rattle.addr_space.specs.Changes.{zeroed}

-- page v is absent: its first byte lies below the size, and the image has no page v
abbrev pub is_absent : Image → ℕ → Bool
is_absent image v = nat_lt (4096 * v) image.size && not (is_some (get image.pages v))

-- the image at a greater size, with the pages that it had: those of them that are new below the size are absent
abbrev pub grown_lazily : Image → ℕ → Image
grown_lazily image size = record { pages = image.pages; size = size }

-- ---- which pages are touched

-- the pages in which the n bytes from an address on lie, byte by byte
abbrev pub pages_at : (address n : ℕ) → List ℕ
pages_at address n = map (λ a. a / 4096) (range_with_len address n)

-- page v is one of them
abbrev pub is_among : ℕ → List ℕ → Bool
is_among v pages = list_any (nat_eq v) pages

-- ---- what a touch makes of an image

-- the image with page v, where it was absent: zeros, which user code may read and write
abbrev pub bring : ℕ → Image → Image
bring v image = if is_absent image v then with_page image v (zeroed data_rights) else image

-- the image with each of these pages that was absent; the size and all other pages stay
unfoldable pub brought : List ℕ → Image → Image
brought [] image = image
brought (v ∷ vs) image = bring v (brought vs image)

-- the pages that an address space can have
unfoldable pub all_pages : List ℕ
all_pages = range_with_len 0 (2 ^ 26)

-- the image with each absent page added: what a kernel copy reads of it, and may write of it once the pages are touched
abbrev pub whole : Image → Image
whole image = brought all_pages image
