-- What the calls on a space make of its image.
use Rattle.std.specs.Prelude.{ℕ, zero, suc, ◌+◌, ◌-◌, cond, false, is_some, List, ◌++◌, take, drop, length}
use Rattle.std.specs.Ordering.{nat_cmp}
use Rattle.std.specs.FinMap.{FinMap, insert, get}
use Rattle.xk_base.specs.declared.access.Rights.{Rights}
use Rattle.xk_base.specs.Image.{Page, Image, page_count}
use Rattle.phys_ram.specs.Ram.{zero_frame}
use Rattle.sv39_core.specs.Listed.{gathered}

-- ---- one page

-- what a page allows
abbrev pub perm_of_page : Page → Rights
perm_of_page page = page.perm

-- a page of zeros
abbrev pub zeroed : Rights → Page
zeroed perm = record { perm = perm; bytes = zero_frame }

-- a page without the right U: user code can't reach it
abbrev pub protected : Page → Page
protected page = record { perm = record { read = page.perm.read; write = page.perm.write; execute = page.perm.execute; user = false }; bytes = page.bytes }

-- a page with other bytes from place `at` on
abbrev pub overwritten : Page → ℕ → List ℕ → Page
overwritten page at bytes = record { perm = page.perm; bytes = take at page.bytes ++ (bytes ++ drop (at + length bytes) page.bytes) }

-- ---- the size

-- the image at a smaller size: the pages from the rounded-up size on are gone
abbrev pub shrunk : Image → ℕ → Image
shrunk image size = record { pages = gathered (get image.pages) (page_count size); size = size }

-- page v is this one where there was none
abbrev pub add_absent : FinMap nat_cmp Page → ℕ → Page → FinMap nat_cmp Page
add_absent pages v page = cond (is_some (get pages v)) pages (insert pages v page)

-- the n pages from first on, each where there was none
unfoldable pub with_absent : FinMap nat_cmp Page → ℕ → ℕ → Page → FinMap nat_cmp Page
with_absent pages first zero page = pages
with_absent pages first (suc n) page = add_absent (with_absent pages first n page) (first + n) page

-- the image with n pages of zeros from first on, each where there was none
abbrev pub filled : Image → ℕ → ℕ → Rights → Image
filled image first n perm = record { pages = with_absent image.pages first n (zeroed perm); size = image.size }

-- the image at a greater size: pages of zeros from the rounded-up old size up to the new one, where there were none
abbrev pub grown : Image → ℕ → Rights → Image
grown image size perm = record { pages = with_absent image.pages (page_count image.size) (page_count size - page_count image.size) (zeroed perm); size = size }
