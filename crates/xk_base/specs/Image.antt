-- A process's memory as a finite map from page numbers to pages, and how many frames it takes.
use Rattle.std.specs.Prelude.{ℕ, zero, suc, ◌+◌, ◌*◌, ◌/◌, ◌^◌, ◌||◌, Bool, false, List, is_some}
use Rattle.std.specs.Ordering.{nat_cmp}
use Rattle.std.specs.FinMap.{FinMap, empty, insert, get, len}
use Rattle.xk_base.specs.declared.access.Rights.{Rights}
use Rattle.xk_base.specs.Words.{count_below}

-- a page of a process: what it allows, and its bytes
pub record Page : Type 0 where
  pub perm : Rights
  pub bytes : List ℕ

-- the pages of a process by their numbers, and its size in bytes
pub record Image : Type 0 where
  pub pages : FinMap nat_cmp Page
  pub size : ℕ

-- the image with no page
abbrev pub no_pages : Image
no_pages = record { pages = empty; size = 0 }

-- the image where page v is this one
abbrev pub with_page : Image → ℕ → Page → Image
with_page image v page = record { pages = insert image.pages v page; size = image.size }

-- how many pages so many bytes take
abbrev pub page_count : ℕ → ℕ
page_count size = (size + 4095) / 4096

-- ---- the price

-- some number below n passes a test
unfoldable pub some_below : ℕ → (ℕ → Bool) → Bool
some_below zero test = false
some_below (suc n) test = test n || some_below n test

-- how many of the numbers below n are `page div m` for a page of the map
abbrev pub groups : {X : Type 0} → FinMap nat_cmp X → ℕ → ℕ → ℕ
groups pages n m = count_below (λ t. some_below m (λ k. is_some (get pages (m * t + k)))) n

-- how many frames an image takes in Sv39's tables: the root, a table for each 2^18 pages and for each 512 pages that hold one of its pages, and its pages
unfoldable pub price : Image → ℕ
price image = 1 + groups image.pages 256 (2 ^ 18) + groups image.pages (2 ^ 17) 512 + len image.pages
