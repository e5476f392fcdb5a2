-- Worked cases of absent pages. An image of size 12289 ends with one byte in its fourth page, page 3.
use Rattle.addr_space.proofs.Prelude.{[], ℕ, ◌∙◌, ◌∷◌, ◌≡◌, ap, arith, brought, cond, empty, false, FinMap, get, get-empty, get-insert, grown_lazily, Image, insert, is_absent, is_some, List, nat_cmp}
use Rattle.addr_space.proofs.Prelude.{nat_cmp_total, None, not, Page, pages_at, refl, Some, tie-yes, true, whole, with_page, zero_frame}
use Rattle.addr_space.proofs.Touching.{brought-size, brought-get, whole-get}

abbrev pub bare : Image
bare = record { pages = empty; size = 12289 }

-- ---- which pages are absent

-- the page that the size ends in is absent
the_last_page_is_absent : is_absent bare 3 ≡ true
the_last_page_is_absent = ap (λ o. not (is_some o)) (get-empty nat_cmp 3)

-- the next one begins past the size
a_page_past_the_size_is_not : is_absent bare 4 ≡ false
a_page_past_the_size_is_not = refl

-- a page that begins at the size isn't below it
a_page_at_the_size_is_not : is_absent (record { pages = empty; size = 12288 }) 3 ≡ false
a_page_at_the_size_is_not = refl

put : (pages : FinMap nat_cmp Page) (v : ℕ) (page : Page) → get (insert pages v page) v ≡ Some page
put pages v page = get-insert nat_cmp_total pages v page v ∙ ap (λ b. cond b (Some page) (get pages v)) (tie-yes v v refl)

here : (page : Page) → get (with_page bare 2 page).pages 2 ≡ Some page
here page = put bare.pages 2 page

-- a page that is there isn't absent
a_page_that_is_there_is_not : (page : Page) → is_absent (with_page bare 2 page) 2 ≡ false
a_page_that_is_there_is_not page = ap (λ o. not (is_some o)) (here page)

-- a lazy growth makes the pages up to the new size absent, and adds none
growth_makes_pages_absent : is_absent (grown_lazily (record { pages = empty; size = 0 }) 12289) 3 ≡ true
growth_makes_pages_absent = the_last_page_is_absent

growth_adds_no_page : (i : Image) → (grown_lazily i 12289).pages ≡ i.pages
growth_adds_no_page i = refl

growth_sets_the_size : (i : Image) → (grown_lazily i 12289).size ≡ 12289
growth_sets_the_size i = refl

-- ---- in which pages a range lies: two bytes across the end of page 3

two_bytes_lie_in_two_pages : pages_at 0x3FFF 2 ≡ 3 ∷ 4 ∷ []
two_bytes_lie_in_two_pages = refl

one_byte_lies_in_one_page : pages_at 0x3FFF 1 ≡ 3 ∷ []
one_byte_lies_in_one_page = refl

no_byte_lies_in_no_page : pages_at 0x3FFF 0 ≡ []
no_byte_lies_in_no_page = refl

-- ---- what a touch leaves

abbrev zeros : Page
zeros = record { perm = record { read = true; write = true; execute = false; user = true }; bytes = zero_frame }

-- a page of the list that was absent comes: zeros that user code may read and write, and not execute
a_touched_page_comes : get (brought (2 ∷ 3 ∷ []) bare).pages 3 ≡ Some zeros
a_touched_page_comes = brought-get (2 ∷ 3 ∷ []) bare 3 ∙ ap (λ b. cond b (Some zeros) (get bare.pages 3)) the_last_page_is_absent

-- an absent page that isn't in the list stays absent
another_page_stays_absent : get (brought (2 ∷ []) bare).pages 3 ≡ None
another_page_stays_absent = brought-get (2 ∷ []) bare 3 ∙ get-empty nat_cmp 3

-- no page comes past the size
no_touched_page_comes_past_the_size : get (brought (4 ∷ []) bare).pages 4 ≡ None
no_touched_page_comes_past_the_size = brought-get (4 ∷ []) bare 4 ∙ get-empty nat_cmp 4

-- a page that was there keeps its bytes and its rights, though it is in the list
a_page_stays : (page : Page) → get (brought (2 ∷ []) (with_page bare 2 page)).pages 2 ≡ Some page
a_page_stays page = brought-get (2 ∷ []) (with_page bare 2 page) 2 ∙ ap (λ b. cond b (Some zeros) (get (with_page bare 2 page).pages 2)) (a_page_that_is_there_is_not page) ∙ here page

-- the size stays
the_size_stays : (pages : List ℕ) (i : Image) → (brought pages i).size ≡ i.size
the_size_stays pages i = brought-size pages i

-- ---- once all is touched

-- each absent page is there, and none past the size
pub an_absent_page_comes : get (whole bare).pages 3 ≡ Some zeros
an_absent_page_comes = whole-get bare 3 (omega arith) ∙ ap (λ b. cond b (Some zeros) (get bare.pages 3)) the_last_page_is_absent

pub no_page_comes_past_the_size : get (whole bare).pages 4 ≡ None
no_page_comes_past_the_size = whole-get bare 4 (omega arith) ∙ get-empty nat_cmp 4
