-- Worked cases of absent pages: in which pages a buffer lies, what comes of an image, and of a view, once they are touched, and the calls that touch them.
-- What an image costs, and which of a buffer's bytes may be written, is given.
use Rattle.kernel_spec.proofs.Prelude.{[], ℕ, ◌+◌, ◌-◌, ◌>>=◌, ◌>>◌, ◌^◌, ◌or◌, ◌when◌, ◌∙◌, ◌∷◌, ◌≡◌, Blocked, bring, brought, Call, Called, Child, codes, cond, empty, empty_console, false, get}
use Rattle.kernel_spec.proofs.Prelude.{get-empty, has_absent, Image, is_absent, least_below, List, make_pipe, map, nat_cmp, nat_eq, negsuc, new_pipe, no_slashes, None, open_file, own, Page, pages_at}
use Rattle.kernel_spec.proofs.Prelude.{perform, pos, price, read, readable, Reading, refl, row, row_of, Running, sbrklazy, Shown_file, Shown_pipe, Shown_terminal, Some, Status, touch, true, View}
use Rattle.kernel_spec.proofs.Prelude.{wait, with_page, writable, write, write_image, Writing, zero_frame}
use Rattle.kernel_spec.proofs.steps.MapsAfterChange.{get_same, get_other}
use Rattle.kernel_spec.proofs.rows.Settled.{absent-not-there}
use Rattle.kernel_spec.proofs.worked.RowsOfMemory.{text_absent}
use Rattle.kernel_spec.proofs.worked.WorkedViews.{call, minus, in_call, ends_of, pids_of, free_of, at_place, image_of, console_of}

-- ---- the pages of a buffer, by byte: page 3 ends at 0x3FFF

no_byte : pages_at 0x3FFF 0 ≡ []
no_byte = refl

one_byte : pages_at 0x3FFF 1 ≡ 3 ∷ []
one_byte = refl

two_bytes : pages_at 0x3FFF 2 ≡ 3 ∷ 4 ∷ []
two_bytes = refl

four_bytes : pages_at 0x3FFD 4 ≡ 3 ∷ 3 ∷ 3 ∷ 4 ∷ []
four_bytes = refl

-- ---- an image of size 12289, which ends with one byte in page 3; page 2 is there

abbrev zeros : Page
zeros = record { perm = record { read = true; write = true; execute = false; user = true }; bytes = zero_frame }

module _ (page : Page) where
  abbrev small : Image
  small = record { pages = (with_page (record { pages = empty; size = 0 }) 2 page).pages; size = 12289 }

  page_2 : get small.pages 2 ≡ Some page
  page_2 = get_same empty 2 page

  page_3 : get small.pages 3 ≡ None
  page_3 = get_other empty 2 page 3 (λ e. absurd (cc)) ∙ get-empty nat_cmp 3

  page_4 : get small.pages 4 ≡ None
  page_4 = get_other empty 2 page 4 (λ e. absurd (cc)) ∙ get-empty nat_cmp 4

  no_pages : has_absent [] small ≡ false
  no_pages = refl

  one_absent : has_absent (3 ∷ []) small ≡ true
  one_absent = rw page_3 refl

  one_there : has_absent (2 ∷ []) small ≡ false
  one_there = rw page_2 refl

  one_past : has_absent (4 ∷ []) small ≡ false
  one_past = refl

  second_absent : has_absent (2 ∷ 3 ∷ []) small ≡ true
  second_absent = rw (page_2, page_3) refl

  -- an absent page comes: zeros that user code may read and write, and not execute
  comes : get (bring 3 small).pages 3 ≡ Some zeros
  comes = rw page_3 (get_same small.pages 3 zeros)

  others_stay : get (bring 3 small).pages 2 ≡ Some page
  others_stay = rw page_3 (get_other small.pages 3 zeros 2 (λ e. absurd (cc)) ∙ page_2)

  size_stays : (bring 3 small).size ≡ 12289
  size_stays = rw page_3 refl

  -- a page that is there stays as it is, and none comes past the size
  there_stays : bring 2 small ≡ small
  there_stays = rw page_2 refl

  past_stays : bring 4 small ≡ small
  past_stays = refl

  -- all of several pages come that were absent
  two_touched : get (brought (2 ∷ 3 ∷ []) small).pages 3 ≡ Some zeros
  unfolding brought
  two_touched = rw page_3 (rw (get_other small.pages 3 zeros 2 (λ e. absurd (cc)), page_2) (get_same small.pages 3 zeros))

  none_touched : brought [] small ≡ small
  unfolding brought
  none_touched = refl

-- ---- a view, once page 2 is touched, which costs two frames

module _ (image : Image) where
  frames : ℕ → View
  frames free = record (in_call image (call 11 0 0 0)) { free = free }

  module _ (absent : is_absent image 2 ≡ true) (old : price image ≡ 6) (new : price (brought (2 ∷ []) image) ≡ 8) where
    fits : touch (2 ∷ []) (frames 2) ≡ Some (record (frames 0) { image = brought (2 ∷ []) image })
    unfolding touch frames in_call
    fits = rw (absent, new, old) refl

    one_fewer : touch (2 ∷ []) (frames 1) ≡ None
    unfolding touch frames in_call
    one_fewer = rw (absent, new, old) refl

    fits_with_more : touch (2 ∷ []) (frames 9) ≡ Some (record (frames 7) { image = brought (2 ∷ []) image })
    unfolding touch frames in_call
    fits_with_more = rw (absent, new, old) refl

  -- pages that aren't absent cost nothing
  costs_nothing : is_absent image 2 ≡ false → touch (2 ∷ []) (frames 0) ≡ Some (frames 0)
  unfolding touch frames in_call
  costs_nothing present = rw present refl

  -- ---- a read of `llo` into 9 bytes at 8192, whose page is absent, and costs one frame

  reader : ℕ → View
  unfolding in_call
  reader free = record (in_call image (call 5 0 8192 9)) {
    descriptors = λ d. cond (nat_eq d 0) (Some (record { file = 0; read = true; write = false; shown = Shown_file 0 2 })) None;
    programs = (record { name = codes "a"; bytes = codes "hello" }) ∷ [];
    free = free;
  }

  abbrev read_pages : List ℕ
  read_pages = pages_at 8192 9

  -- what is asked of a read whose buffer is absent
  module _ (there : writable image 8192 9 ≡ true) (absent : is_absent image 2 ≡ true) (old : price image ≡ 6) (new : price (brought read_pages image) ≡ 7) where
    read_bytes : image_of (own (reader 1)).next ≡ write_image (brought read_pages image) 8192 (codes "llo")
    unfolding own in_call reader perform row row_of read touch image_of ◌>>=◌ ◌>>◌ ◌when◌ ◌or◌
    read_bytes = rw (there, absent, new, old) refl

    read_answer : (own (reader 1)).answer ≡ Called (pos 5) (pos 3)
    unfolding own in_call reader perform row row_of read touch ◌>>=◌ ◌>>◌ ◌when◌ ◌or◌
    read_answer = rw (there, absent, new, old) refl

    read_takes : free_of (own (reader 1)).next ≡ 0
    unfolding own in_call reader perform row row_of read touch free_of ◌>>=◌ ◌>>◌ ◌when◌ ◌or◌
    read_takes = rw (there, absent, new, old) refl

    -- one frame fewer: it is refused, and nothing came
    read_refused : (own (reader 0)).answer ≡ Called (pos 5) (negsuc 0)
    unfolding own in_call reader perform row row_of read touch ◌>>=◌ ◌>>◌ ◌when◌ ◌or◌
    read_refused = rw (there, absent, new, old) refl

    read_keeps : image_of (own (reader 0)).next ≡ image
    unfolding own in_call reader perform row row_of read touch image_of ◌>>=◌ ◌>>◌ ◌when◌ ◌or◌
    read_keeps = rw (there, absent, new, old) refl

  -- a buffer that may not be written touches nothing
  read_elsewhere : writable image 8192 9 ≡ false → image_of (own (reader 9)).next ≡ image
  unfolding own in_call reader perform row row_of read image_of ◌>>=◌ ◌>>◌ ◌when◌ ◌or◌
  read_elsewhere refusing = rw refusing refl

  -- nor does a read of no byte
  read_none : image_of (own (record (reader 9) { call = Some (call 5 0 8192 0) })).next ≡ image
  unfolding own in_call reader perform row row_of read image_of ◌>>=◌ ◌>>◌ ◌when◌ ◌or◌
  read_none = refl

  -- ---- a read of a pipe and of the console; where nothing is there the pages come, and it waits

  pipe_reader : List ℕ → ℕ → View
  unfolding in_call
  pipe_reader bytes free = record (in_call image (call 5 0 8192 9)) { descriptors = ends_of (record { bytes = bytes; readers = 1; writers = 1 }); free = free }

  line_reader : List ℕ → ℕ → View
  unfolding in_call
  line_reader committed free = record (in_call image (call 5 0 8192 9)) {
    descriptors = λ d. cond (nat_eq d 0) (Some (record { file = 0; read = true; write = true; shown = Shown_terminal })) None;
    console = record empty_console { committed = committed };
    free = free;
  }

  -- ---- wait with an address: process 1 has the child 2, which runs or has ended with 30

  waiter : Child → ℕ → View
  unfolding in_call
  waiter child free = record (in_call image (call 3 8192 0 0)) { pids = 1 ∷ 2 ∷ []; children = λ q. cond (nat_eq q 2) (Some child) None; free = free }

  childless : ℕ → View
  unfolding in_call
  childless free = record (in_call image (call 3 8192 0 0)) { free = free }

  -- ---- pipe: its page and the pipe's own frame

  piper : ℕ → View
  unfolding in_call
  piper free = record (in_call image (call 4 8192 0 0)) { free = free }

  module _ (there : writable image 8192 9 ≡ true) (absent : is_absent image 2 ≡ true) (old : price image ≡ 6) (new : price (brought read_pages image) ≡ 7) where
    empty_pipe_waits : (own (pipe_reader [] 1)).answer ≡ Blocked (pos 5)
    unfolding own in_call pipe_reader perform row row_of read touch ◌>>=◌ ◌>>◌ ◌when◌ ◌or◌
    empty_pipe_waits = rw (there, absent, new, old) refl

    empty_pipe_touches : image_of (own (pipe_reader [] 1)).next ≡ brought read_pages image
    unfolding own in_call pipe_reader perform row row_of read touch image_of ◌>>=◌ ◌>>◌ ◌when◌ ◌or◌
    empty_pipe_touches = rw (there, absent, new, old) refl

    empty_pipe_takes : free_of (own (pipe_reader [] 1)).next ≡ 0
    unfolding own in_call pipe_reader perform row row_of read touch free_of ◌>>=◌ ◌>>◌ ◌when◌ ◌or◌
    empty_pipe_takes = rw (there, absent, new, old) refl

    empty_pipe_refused : (own (pipe_reader [] 0)).answer ≡ Called (pos 5) (negsuc 0)
    unfolding own in_call pipe_reader perform row row_of read touch ◌>>=◌ ◌>>◌ ◌when◌ ◌or◌
    empty_pipe_refused = rw (there, absent, new, old) refl

    -- two bytes, a line, and a line that isn't over
    pipe_bytes : image_of (own (pipe_reader (codes "xy") 1)).next ≡ write_image (brought read_pages image) 8192 (codes "xy")
    unfolding own in_call pipe_reader perform row row_of read touch image_of ◌>>=◌ ◌>>◌ ◌when◌ ◌or◌
    pipe_bytes = rw (there, absent, new, old) refl

    pipe_left : at_place (own (pipe_reader (codes "xy") 1)).next 0 ≡ Some (record { file = 0; read = true; write = false; shown = Shown_pipe 0 Reading new_pipe })
    unfolding own in_call pipe_reader new_pipe perform row row_of read touch at_place ◌>>=◌ ◌>>◌ ◌when◌ ◌or◌
    pipe_left = rw (there, absent, new, old) refl

    line_bytes : image_of (own (line_reader (codes "a\n") 1)).next ≡ write_image (brought read_pages image) 8192 (codes "a\n")
    unfolding own in_call line_reader perform row row_of read touch image_of ◌>>=◌ ◌>>◌ ◌when◌ ◌or◌
    line_bytes = rw (there, absent, new, old) refl

    line_answer : (own (line_reader (codes "a\n") 1)).answer ≡ Called (pos 5) (pos 2)
    unfolding own in_call line_reader perform row row_of read touch ◌>>=◌ ◌>>◌ ◌when◌ ◌or◌
    line_answer = rw (there, absent, new, old) refl

    line_takes : free_of (own (line_reader (codes "a\n") 1)).next ≡ 0
    unfolding own in_call line_reader perform row row_of read touch free_of ◌>>=◌ ◌>>◌ ◌when◌ ◌or◌
    line_takes = rw (there, absent, new, old) refl

    line_waits : image_of (own (line_reader (codes "a") 1)).next ≡ write_image (brought read_pages image) 8192 (codes "a")
    unfolding own in_call line_reader perform row row_of read touch image_of ◌>>=◌ ◌>>◌ ◌when◌ ◌or◌
    line_waits = rw (there, absent, new, old) refl

    -- one frame fewer: the line is left
    line_refused : console_of (own (line_reader (codes "a\n") 0)).next ≡ record empty_console { committed = codes "a\n" }
    unfolding own in_call line_reader perform row row_of read touch console_of ◌>>=◌ ◌>>◌ ◌when◌ ◌or◌
    line_refused = rw (there, absent, new, old) refl

  abbrev told_pages : List ℕ
  told_pages = pages_at 8192 4

  module _ (there : writable image 8192 4 ≡ true) (absent : is_absent image 2 ≡ true) (old : price image ≡ 6) (new : price (brought told_pages image) ≡ 7) where
    wait_tells : image_of (own (waiter (Status (pos 30)) 1)).next ≡ write_image (brought told_pages image) 8192 (30 ∷ 0 ∷ 0 ∷ 0 ∷ [])
    unfolding own in_call waiter perform row row_of wait touch image_of ◌>>=◌ ◌>>◌ ◌when◌ ◌or◌
    wait_tells = rw (there, absent, new, old) refl

    wait_takes : free_of (own (waiter (Status (pos 30)) 1)).next ≡ 0
    unfolding own in_call waiter perform row row_of wait touch free_of ◌>>=◌ ◌>>◌ ◌when◌ ◌or◌
    wait_takes = rw (there, absent, new, old) refl

    wait_reaps : pids_of (own (waiter (Status (pos 30)) 1)).next ≡ 1 ∷ []
    unfolding own in_call waiter perform row row_of wait touch pids_of ◌>>=◌ ◌>>◌ ◌when◌ ◌or◌
    wait_reaps = rw (there, absent, new, old) refl

    -- one frame fewer: it is refused, nothing came, and the child is there still
    wait_refused : (own (waiter (Status (pos 30)) 0)).answer ≡ Called (pos 3) (negsuc 0)
    unfolding own in_call waiter perform row row_of wait touch ◌>>=◌ ◌>>◌ ◌when◌ ◌or◌
    wait_refused = rw (there, absent, new, old) refl

    wait_keeps : image_of (own (waiter (Status (pos 30)) 0)).next ≡ image
    unfolding own in_call waiter perform row row_of wait touch image_of ◌>>=◌ ◌>>◌ ◌when◌ ◌or◌
    wait_keeps = rw (there, absent, new, old) refl

    wait_leaves : pids_of (own (waiter (Status (pos 30)) 0)).next ≡ 1 ∷ 2 ∷ []
    unfolding own in_call waiter perform row row_of wait touch pids_of ◌>>=◌ ◌>>◌ ◌when◌ ◌or◌
    wait_leaves = rw (there, absent, new, old) refl

    -- the child runs: the page comes, and the call waits
    wait_waits : (own (waiter Running 1)).answer ≡ Blocked (pos 3)
    unfolding own in_call waiter perform row row_of wait touch ◌>>=◌ ◌>>◌ ◌when◌ ◌or◌
    wait_waits = rw (there, absent, new, old) refl

    wait_touches : image_of (own (waiter Running 1)).next ≡ brought told_pages image
    unfolding own in_call waiter perform row row_of wait touch image_of ◌>>=◌ ◌>>◌ ◌when◌ ◌or◌
    wait_touches = rw (there, absent, new, old) refl

    -- without an address nothing comes, whatever page 0 is
    wait_without : image_of (own (record (waiter Running 1) { call = Some (call 3 0 0 0) })).next ≡ image
    unfolding own in_call waiter perform row row_of wait touch image_of ◌>>=◌ ◌>>◌ ◌when◌ ◌or◌
    wait_without = refl

    -- no child: it is refused, and nothing came
    childless_refused : (own (childless 9)).answer ≡ Called (pos 3) (negsuc 0)
    unfolding own in_call childless perform row row_of wait touch ◌>>=◌ ◌>>◌ ◌when◌ ◌or◌
    childless_refused = rw (there) refl

    childless_keeps : image_of (own (childless 9)).next ≡ image
    unfolding own in_call childless perform row row_of wait touch image_of ◌>>=◌ ◌>>◌ ◌when◌ ◌or◌
    childless_keeps = rw (there) refl

    childless_takes_nothing : free_of (own (childless 9)).next ≡ 9
    unfolding own in_call childless perform row row_of wait touch free_of ◌>>=◌ ◌>>◌ ◌when◌ ◌or◌
    childless_takes_nothing = rw (there) refl

  abbrev pipe_pages : List ℕ
  pipe_pages = pages_at 8192 8

  module _ (there : writable image 8192 8 ≡ true) (absent : is_absent image 2 ≡ true) (old : price image ≡ 6) (new : price (brought pipe_pages image) ≡ 7) where
    pipe_made : (own (piper 2)).answer ≡ Called (pos 4) (pos 0)
    unfolding own in_call piper least_below perform row row_of make_pipe touch ◌>>=◌ ◌>>◌ ◌when◌ ◌or◌
    pipe_made = rw (there, absent, new, old) refl

    pipe_tells : image_of (own (piper 2)).next ≡ write_image (brought pipe_pages image) 8192 (0 ∷ 0 ∷ 0 ∷ 0 ∷ 1 ∷ 0 ∷ 0 ∷ 0 ∷ [])
    unfolding own in_call piper least_below perform row row_of make_pipe touch image_of ◌>>=◌ ◌>>◌ ◌when◌ ◌or◌
    pipe_tells = rw (there, absent, new, old) refl

    pipe_takes : free_of (own (piper 2)).next ≡ 0
    unfolding own in_call piper least_below perform row row_of make_pipe touch free_of ◌>>=◌ ◌>>◌ ◌when◌ ◌or◌
    pipe_takes = rw (there, absent, new, old) refl

    -- one frame fewer: the page fits and the pipe doesn't, so it is refused, and the page didn't come; two fewer
    pipe_refused : (own (piper 1)).answer ≡ Called (pos 4) (negsuc 0)
    unfolding own in_call piper least_below perform row row_of make_pipe touch ◌>>=◌ ◌>>◌ ◌when◌ ◌or◌
    pipe_refused = rw (there, absent, new, old) refl

    pipe_keeps : image_of (own (piper 1)).next ≡ image
    unfolding own in_call piper least_below perform row row_of make_pipe touch image_of ◌>>=◌ ◌>>◌ ◌when◌ ◌or◌
    pipe_keeps = rw (there, absent, new, old) refl

    pipe_takes_nothing : free_of (own (piper 1)).next ≡ 1
    unfolding own in_call piper least_below perform row row_of make_pipe touch free_of ◌>>=◌ ◌>>◌ ◌when◌ ◌or◌
    pipe_takes_nothing = rw (there, absent, new, old) refl

    pipe_refused_page : (own (piper 0)).answer ≡ Called (pos 4) (negsuc 0)
    unfolding own in_call piper least_below perform row row_of make_pipe touch ◌>>=◌ ◌>>◌ ◌when◌ ◌or◌
    pipe_refused_page = rw (there, absent, new, old) refl

  -- ---- a write of two bytes out of an absent page: they are zeros, and the page doesn't come

  abbrev sender : Call → View
  sender c = record (in_call image c) { descriptors = λ d. cond (nat_eq d 2) (Some (record { file = 2; read = true; write = true; shown = Shown_terminal })) (ends_of new_pipe d) }

  module _ (there : readable image 8192 2 ≡ true) (absent : is_absent image 2 ≡ true) where
    sends_zeros : (console_of (own (sender (call 16 2 8192 2))).next).to_send ≡ 0 ∷ 0 ∷ []
    unfolding own in_call perform row row_of write console_of ◌>>=◌ ◌>>◌ ◌when◌ ◌or◌
    sends_zeros = rw (there, absent-not-there image 2 absent) refl

    sends_all : (own (sender (call 16 2 8192 2))).answer ≡ Called (pos 16) (pos 2)
    unfolding own in_call perform row row_of write ◌>>=◌ ◌>>◌ ◌when◌ ◌or◌
    sends_all = rw there refl

    sends_untouched : image_of (own (sender (call 16 2 8192 2))).next ≡ image
    unfolding own in_call perform row row_of write image_of ◌>>=◌ ◌>>◌ ◌when◌ ◌or◌
    sends_untouched = rw there refl

    sends_for_nothing : free_of (own (sender (call 16 2 8192 2))).next ≡ 9
    unfolding own in_call perform row row_of write free_of ◌>>=◌ ◌>>◌ ◌when◌ ◌or◌
    sends_for_nothing = rw there refl

    pipes_zeros : at_place (own (sender (call 16 1 8192 2))).next 1 ≡ Some
        (record { file = 1; read = false; write = true; shown = Shown_pipe 0 Writing (record { bytes = 0 ∷ 0 ∷ []; readers = 1; writers = 1 }) })
    unfolding own in_call new_pipe perform row row_of write at_place ◌>>=◌ ◌>>◌ ◌when◌ ◌or◌
    pipes_zeros = rw (there, absent-not-there image 2 absent) refl

    pipes_untouched : image_of (own (sender (call 16 1 8192 2))).next ≡ image
    unfolding own in_call new_pipe perform row row_of write image_of ◌>>=◌ ◌>>◌ ◌when◌ ◌or◌
    pipes_untouched = rw there refl

  -- ---- a path in an absent page is the empty text, which names nothing, and the page doesn't come

  abbrev namer : ℕ → View
  namer number = record (in_call image (call number 8192 4096 0)) { programs = (record { name = codes "a"; bytes = codes "hello" }) ∷ [] }

  module _ (absent : is_absent image 2 ≡ true) where
    open_refused : (own (namer 15)).answer ≡ Called (pos 15) (negsuc 0)
    unfolding own in_call perform row row_of open_file no_slashes ◌>>=◌ ◌>>◌ ◌when◌ ◌or◌
    open_refused = rw (text_absent image 127 8192 absent) refl

    open_keeps : image_of (own (namer 15)).next ≡ image
    unfolding own in_call perform row row_of open_file no_slashes image_of ◌>>=◌ ◌>>◌ ◌when◌ ◌or◌
    open_keeps = rw (text_absent image 127 8192 absent) refl

  -- ---- sbrklazy, from a size

  lazily : (size n : ℕ) → View
  unfolding in_call
  lazily size n = record (in_call image (call 22 n 0 0)) { image = record image { size = size } }

  lazy_answers : map (λ n. (own (lazily 12288 n)).answer) (0 ∷ 1 ∷ 8192 ∷ (2 ^ 32 + 1) ∷ []) ≡ map (λ n. Called (pos 22) (pos 12288)) (0 ∷ 1 ∷ 8192 ∷ (2 ^ 32 + 1) ∷ [])
  unfolding own in_call lazily perform row row_of sbrklazy ◌>>=◌ ◌>>◌ ◌when◌ ◌or◌
  lazy_answers = refl

  -- the size grows, and no page comes
  lazy_0 : image_of (own (lazily 12288 0)).next ≡ record image { size = 12288 }
  unfolding own in_call lazily perform row row_of sbrklazy image_of ◌>>=◌ ◌>>◌ ◌when◌ ◌or◌
  lazy_0 = refl

  lazy_1 : image_of (own (lazily 12288 1)).next ≡ record image { size = 12289 }
  unfolding own in_call lazily perform row row_of sbrklazy image_of ◌>>=◌ ◌>>◌ ◌when◌ ◌or◌
  lazy_1 = refl

  -- only the low 32 bits count
  lazy_low_bits : image_of (own (lazily 12288 (2 ^ 32 + 1))).next ≡ record image { size = 12289 }
  unfolding own in_call lazily perform row row_of sbrklazy image_of ◌>>=◌ ◌>>◌ ◌when◌ ◌or◌
  lazy_low_bits = refl

  -- no frame is taken, also where none is free
  lazy_takes_nothing : free_of (own (record (lazily 12288 8192) { free = 0 })).next ≡ 0
  unfolding own in_call lazily perform row row_of sbrklazy free_of ◌>>=◌ ◌>>◌ ◌when◌ ◌or◌
  lazy_takes_nothing = refl

  -- the page of the first new byte is absent
  lazy_absent : get image.pages 3 ≡ None → is_absent (image_of (own (lazily 12288 1)).next) 3 ≡ true
  unfolding own in_call lazily perform row row_of sbrklazy image_of ◌>>=◌ ◌>>◌ ◌when◌ ◌or◌
  lazy_absent none = rw none refl

  -- up to the greatest size, and a byte beyond; and by -1
  lazy_to_limit : image_of (own (lazily (2 ^ 38 - 8193) 1)).next ≡ record image { size = 2 ^ 38 - 8192 }
  unfolding own in_call lazily perform row row_of sbrklazy image_of ◌>>=◌ ◌>>◌ ◌when◌ ◌or◌
  lazy_to_limit = refl

  lazy_past_limit : (own (lazily (2 ^ 38 - 8193) 2)).answer ≡ Called (pos 22) (negsuc 0)
  unfolding own in_call lazily perform row row_of sbrklazy ◌>>=◌ ◌>>◌ ◌when◌ ◌or◌
  lazy_past_limit = refl

  lazy_past_keeps : image_of (own (lazily (2 ^ 38 - 8193) 2)).next ≡ record image { size = 2 ^ 38 - 8193 }
  unfolding own in_call lazily perform row row_of sbrklazy image_of ◌>>=◌ ◌>>◌ ◌when◌ ◌or◌
  lazy_past_keeps = refl

  lazy_minus_1 : (own (lazily 12288 (minus 1))).answer ≡ Called (pos 22) (negsuc 0)
  unfolding own in_call lazily perform row row_of sbrklazy ◌>>=◌ ◌>>◌ ◌when◌ ◌or◌
  lazy_minus_1 = refl

  lazy_minus_1_keeps : image_of (own (lazily 12288 (minus 1))).next ≡ record image { size = 12288 }
  unfolding own in_call lazily perform row row_of sbrklazy image_of ◌>>=◌ ◌>>◌ ◌when◌ ◌or◌
  lazy_minus_1_keeps = refl
