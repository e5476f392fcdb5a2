-- Worked rows of reads and writes: which bytes go, which are left, and what is shared by those who are on the same open file or pipe.
-- Which of the caller's buffers are there is given.
use Rattle.kernel_spec.proofs.Prelude.{[], ℕ, ◌++◌, ◌-◌, ◌>>=◌, ◌>>◌, ◌or◌, ◌when◌, ◌∷◌, ◌≡◌, ap, Blocked, Bool, Call, Called, close, codes, cond, Console, count_below, Descriptor, Descriptors, dup}
use Rattle.kernel_spec.proofs.Prelude.{empty_console, false, has_absent, Image, image_bytes, least_below, line, List, named, nat_eq, nat_lt, None, Own, own, pages_at, perform, Pipe, PIPE_BYTES, pos}
use Rattle.kernel_spec.proofs.Prelude.{readable, Reading, refl, replicate, row, row_of, Shown_file, Shown_pipe, Shown_terminal, Some, true, View, writable, write_image, Writing}
use Rattle.kernel_spec.proofs.worked.WorkedViews.{call, in_call, ends_of, at_place, image_of, console_of, moved_of}
use Rattle.kernel_spec.proofs.rows.RowParts.{perform_row, moving, read_from, write_to, perform_parts}
use Rattle.kernel_spec.proofs.rows.RowsByParts.{by_parts}

module _ (image : Image) where
  -- a call of these numbers on this descriptor, on n bytes at 8192, of which so many are moved
  asked_for : (number d n moved : ℕ) → Call
  asked_for number d n moved = record (call number d 8192 n) { moved = moved }

  -- ---- a program's file: descriptors 0 and 1 are on one open file at this offset, 2 is on the same program, and 3 on the second one

  abbrev on_program : (file program offset : ℕ) → Descriptor
  on_program file program offset = record { file = file; read = true; write = false; shown = Shown_file program offset }

  abbrev four : ℕ → Descriptors
  four offset = λ d. cond (nat_lt d 2) (Some (on_program 0 0 offset)) (cond (nat_eq d 2) (Some (on_program 2 0 0)) (cond (nat_eq d 3) (Some (on_program 3 1 0)) None))

  file_view : (d n offset : ℕ) → View
  file_view d n offset = record (in_call image (asked_for 5 d n 0))
      { descriptors = four offset; programs = (record { name = codes "a"; bytes = codes "hello" }) ∷ (record { name = codes "b"; bytes = codes "hi" }) ∷ [] }

  -- the read of n bytes at a place of a program, where it is known whether the buffer is there
  file_if : (d n offset file program at : ℕ) → Bool → Own
  file_if d n offset file program at there = moving (asked_for 5 d n 0) (file_view d n offset) there (pos n) (λ k. read_from (asked_for 5 d n 0) (file_view d n offset) k file (Shown_file program at))

  module _ (there : writable image 8192 2 ≡ true) (present : has_absent (pages_at 8192 2) image ≡ false) where
    -- two bytes of `hello` at 0, the two behind them, the last one, and none
    file_he : image_of (own (file_view 0 2 0)).next ≡ write_image image 8192 (codes "he")
    unfolding own perform_parts perform_row row_of in_call asked_for file_view file_if image_of
    file_he = by_parts (λ (o : Own). image_of o.next) _ _ present (ap (λ (b : Bool). image_of (file_if 0 2 0 0 0 0 b).next) there)

    file_ll : image_of (own (file_view 1 2 2)).next ≡ write_image image 8192 (codes "ll")
    unfolding own perform_parts perform_row row_of in_call asked_for file_view file_if image_of
    file_ll = by_parts (λ (o : Own). image_of o.next) _ _ present (ap (λ (b : Bool). image_of (file_if 1 2 2 0 0 2 b).next) there)

    file_o : (own (file_view 0 2 4)).answer ≡ Called (pos 5) (pos 1)
    unfolding own perform_parts perform_row row_of in_call asked_for file_view file_if
    file_o = by_parts (λ (o : Own). o.answer) _ _ present (ap (λ (b : Bool). (file_if 0 2 4 0 0 4 b).answer) there)

    file_end : (own (file_view 0 2 5)).answer ≡ Called (pos 5) (pos 0)
    unfolding own perform_parts perform_row row_of in_call asked_for file_view file_if
    file_end = by_parts (λ (o : Own). o.answer) _ _ present (ap (λ (b : Bool). (file_if 0 2 5 0 0 5 b).answer) there)

    -- both descriptors on the open file go on, and the one of its own stays
    file_shared : at_place (own (file_view 0 2 2)).next 1 ≡ Some (on_program 0 0 4)
    unfolding own perform_parts perform_row row_of in_call asked_for file_view file_if at_place
    file_shared = by_parts (λ (o : Own). at_place o.next 1) _ _ present (ap (λ (b : Bool). at_place (file_if 0 2 2 0 0 2 b).next 1) there)

    file_apart : at_place (own (file_view 0 2 2)).next 2 ≡ Some (on_program 2 0 0)
    unfolding own perform_parts perform_row row_of in_call asked_for file_view file_if at_place
    file_apart = by_parts (λ (o : Own). at_place o.next 2) _ _ present (ap (λ (b : Bool). at_place (file_if 0 2 2 0 0 2 b).next 2) there)

    -- the second program
    file_second : image_of (own (file_view 3 2 2)).next ≡ write_image image 8192 (codes "hi")
    unfolding own perform_parts perform_row row_of in_call asked_for file_view file_if image_of
    file_second = by_parts (λ (o : Own). image_of o.next) _ _ present (ap (λ (b : Bool). image_of (file_if 3 2 2 3 1 0 b).next) there)

  -- ---- a pipe

  abbrev pipe_of : List ℕ → Pipe
  pipe_of bytes = record { bytes = bytes; readers = 1; writers = 1 }

  pipe_view : Call → List ℕ → View
  pipe_view c bytes = record (in_call image c) { descriptors = ends_of (pipe_of bytes) }

  reading_if : ℕ → List ℕ → Bool → Own
  reading_if n bytes there = moving (asked_for 5 0 n 0) (pipe_view (asked_for 5 0 n 0) bytes) there (pos n)
      (λ k. read_from (asked_for 5 0 n 0) (pipe_view (asked_for 5 0 n 0) bytes) k 0 (Shown_pipe 0 Reading (pipe_of bytes)))

  module _ (there : writable image 8192 1 ≡ true) (present : has_absent (pages_at 8192 1) image ≡ false) where
    -- one byte of two: the other is left
    pipe_first : image_of (own (pipe_view (asked_for 5 0 1 0) (codes "xy"))).next ≡ write_image image 8192 (codes "x")
    unfolding own perform_parts perform_row row_of in_call asked_for pipe_view reading_if image_of
    pipe_first = by_parts (λ (o : Own). image_of o.next) _ _ present (ap (λ (b : Bool). image_of (reading_if 1 (codes "xy") b).next) there)

    pipe_first_answer : (own (pipe_view (asked_for 5 0 1 0) (codes "xy"))).answer ≡ Called (pos 5) (pos 1)
    unfolding own perform_parts perform_row row_of in_call asked_for pipe_view reading_if
    pipe_first_answer = by_parts (λ (o : Own). o.answer) _ _ present (ap (λ (b : Bool). (reading_if 1 (codes "xy") b).answer) there)

    -- so its write end shows too
    pipe_second_left : at_place (own (pipe_view (asked_for 5 0 1 0) (codes "xy"))).next 1 ≡ Some (record { file = 1; read = false; write = true; shown = Shown_pipe 0 Writing (pipe_of (codes "y")) })
    unfolding own perform_parts perform_row row_of in_call asked_for pipe_view reading_if at_place
    pipe_second_left = by_parts (λ (o : Own). at_place o.next 1) _ _ present (ap (λ (b : Bool). at_place (reading_if 1 (codes "xy") b).next 1) there)

  writing_if : (n moved : ℕ) → List ℕ → Bool → Own
  writing_if n moved bytes there = moving (asked_for 16 1 n moved) (pipe_view (asked_for 16 1 n moved) bytes) there (pos n)
      (λ k. write_to (asked_for 16 1 n moved) (pipe_view (asked_for 16 1 n moved) bytes) k (Shown_pipe 0 Writing (pipe_of bytes)))

  -- two bytes behind those that are there
  module _ (there : readable image 8192 2 ≡ true) where
    pipe_more : at_place (own (pipe_view (asked_for 16 1 2 0) (codes "xy"))).next 0 ≡ Some
        (record { file = 0; read = true; write = false; shown = Shown_pipe 0 Reading (pipe_of (codes "xy" ++ image_bytes image 8192 2)) })
    unfolding own perform_parts perform_row row_of in_call asked_for pipe_view writing_if at_place
    pipe_more = by_parts (λ (o : Own). at_place o.next 0) _ _ refl (ap (λ (b : Bool). at_place (writing_if 2 0 (codes "xy") b).next 0) there)

    pipe_more_answer : (own (pipe_view (asked_for 16 1 2 0) (codes "xy"))).answer ≡ Called (pos 16) (pos 2)
    unfolding own perform_parts perform_row row_of in_call asked_for pipe_view writing_if
    pipe_more_answer = by_parts (λ (o : Own). o.answer) _ _ refl (ap (λ (b : Bool). (writing_if 2 0 (codes "xy") b).answer) there)

    -- exactly one byte fits, and it waits for the other
    pipe_fits_1 : moved_of (own (pipe_view (asked_for 16 1 2 0) (replicate (PIPE_BYTES - 1) 0))).next ≡ Some 1
    unfolding own perform_parts perform_row row_of in_call asked_for pipe_view writing_if moved_of
    pipe_fits_1 = by_parts (λ (o : Own). moved_of o.next) _ _ refl (ap (λ (b : Bool). moved_of (writing_if 2 0 (replicate (PIPE_BYTES - 1) 0) b).next) there)

    -- which goes from behind it
    pipe_goes_on : at_place (own (pipe_view (asked_for 16 1 2 1) (codes "x"))).next 1 ≡ Some
        (record { file = 1; read = false; write = true; shown = Shown_pipe 0 Writing (pipe_of (codes "x" ++ image_bytes image 8193 1)) })
    unfolding own perform_parts perform_row row_of in_call asked_for pipe_view writing_if at_place
    pipe_goes_on = by_parts (λ (o : Own). at_place o.next 1) _ _ refl (ap (λ (b : Bool). at_place (writing_if 2 1 (codes "x") b).next 1) there)

    pipe_goes_on_answer : (own (pipe_view (asked_for 16 1 2 1) (codes "x"))).answer ≡ Called (pos 16) (pos 2)
    unfolding own perform_parts perform_row row_of in_call asked_for pipe_view writing_if
    pipe_goes_on_answer = by_parts (λ (o : Own). o.answer) _ _ refl (ap (λ (b : Bool). (writing_if 2 1 (codes "x") b).answer) there)

    -- a full pipe takes none
    pipe_full : (own (pipe_view (asked_for 16 1 2 0) (replicate PIPE_BYTES 0))).answer ≡ Blocked (pos 16)
    unfolding own perform_parts perform_row row_of in_call asked_for pipe_view writing_if
    pipe_full = by_parts (λ (o : Own). o.answer) _ _ refl (ap (λ (b : Bool). (writing_if 2 0 (replicate PIPE_BYTES 0) b).answer) there)

  -- ---- two pipes: descriptor 2 is on another one, which a read, a dup and a close leave as it is

  abbrev other_end : Descriptor
  other_end = record { file = 2; read = true; write = false; shown = Shown_pipe 2 Reading (pipe_of (codes "z")) }

  two_pipes : Call → View
  two_pipes c = record (in_call image c) { descriptors = λ d. cond (nat_eq d 2) (Some other_end) (ends_of (pipe_of (codes "xy")) d) }

  reading_one : Bool → Own
  reading_one there = moving (asked_for 5 0 1 0) (two_pipes (asked_for 5 0 1 0)) there (pos 1)
      (λ k. read_from (asked_for 5 0 1 0) (two_pipes (asked_for 5 0 1 0)) k 0 (Shown_pipe 0 Reading (pipe_of (codes "xy"))))

  other_stays : writable image 8192 1 ≡ true → has_absent (pages_at 8192 1) image ≡ false → at_place (own (two_pipes (asked_for 5 0 1 0))).next 2 ≡ Some other_end
  unfolding own perform_parts perform_row row_of in_call asked_for two_pipes reading_one at_place
  other_stays there present = by_parts (λ (o : Own). at_place o.next 2) _ _ present (ap (λ (b : Bool). at_place (reading_one b).next 2) there)

  other_after_dup : at_place (own (two_pipes (call 10 1 0 0))).next 2 ≡ Some other_end
  unfolding own in_call two_pipes at_place least_below named perform row row_of dup ◌>>=◌ ◌>>◌ ◌when◌ ◌or◌
  other_after_dup = refl

  other_after_close : at_place (own (two_pipes (call 21 1 0 0))).next 2 ≡ Some other_end
  unfolding own in_call two_pipes at_place least_below named count_below perform row row_of close ◌>>=◌ ◌>>◌ ◌when◌ ◌or◌
  other_after_close = refl

  -- ---- the console

  console_view : Call → Console → View
  console_view c console = record (in_call image c) { descriptors = λ d. cond (nat_eq d 0) (Some (record { file = 0; read = true; write = true; shown = Shown_terminal })) None; console = console }

  abbrev typed : List ℕ → Console
  typed committed = record { committed = committed; uncommitted = codes "u"; to_send = codes "s" }

  line_if : ℕ → List ℕ → Bool → Own
  line_if moved committed there = moving (asked_for 5 0 10 moved) (console_view (asked_for 5 0 10 moved) (typed committed)) there (pos 10)
      (λ k. read_from (asked_for 5 0 10 moved) (console_view (asked_for 5 0 10 moved) (typed committed)) k 0 Shown_terminal)

  module _ (there : writable image 8192 10 ≡ true) (present : has_absent (pages_at 8192 10) image ≡ false) where
    -- a line is taken, and what is behind it is left; so are bytes that aren't committed, and those to be sent
    line_left : console_of (own (console_view (asked_for 5 0 10 0) (typed (codes "a\nb\n")))).next ≡ typed (codes "b\n")
    unfolding own perform_parts perform_row row_of in_call asked_for console_view line_if console_of
    line_left = by_parts (λ (o : Own). console_of o.next) _ _ present (ap (λ (b : Bool). console_of (line_if 0 (codes "a\nb\n") b).next) there)

    line_answer : (own (console_view (asked_for 5 0 10 0) (typed (codes "a\nb\n")))).answer ≡ Called (pos 5) (pos 2)
    unfolding own perform_parts perform_row row_of in_call asked_for console_view line_if
    line_answer = by_parts (λ (o : Own). o.answer) _ _ present (ap (λ (b : Bool). (line_if 0 (codes "a\nb\n") b).answer) there)

    -- byte 4 ends a read that has 2 bytes, and is left for the next one, which takes it and answers 0
    end_later : (own (console_view (asked_for 5 0 10 2) (typed (4 ∷ [])))).answer ≡ Called (pos 5) (pos 2)
    unfolding own perform_parts perform_row row_of in_call asked_for console_view line_if
    end_later = by_parts (λ (o : Own). o.answer) _ _ present (ap (λ (b : Bool). (line_if 2 (4 ∷ []) b).answer) there)

    end_left : console_of (own (console_view (asked_for 5 0 10 2) (typed (4 ∷ [])))).next ≡ typed (4 ∷ [])
    unfolding own perform_parts perform_row row_of in_call asked_for console_view line_if console_of
    end_left = by_parts (λ (o : Own). console_of o.next) _ _ present (ap (λ (b : Bool). console_of (line_if 2 (4 ∷ []) b).next) there)

    end_taken : console_of (own (console_view (asked_for 5 0 10 0) (typed (4 ∷ codes "c")))).next ≡ typed (codes "c")
    unfolding own perform_parts perform_row row_of in_call asked_for console_view line_if console_of
    end_taken = by_parts (λ (o : Own). console_of o.next) _ _ present (ap (λ (b : Bool). console_of (line_if 0 (4 ∷ codes "c") b).next) there)

    -- nothing is there
    no_line : (own (console_view (asked_for 5 0 10 0) (typed []))).answer ≡ Blocked (pos 5)
    unfolding own perform_parts perform_row row_of in_call asked_for console_view line_if
    no_line = by_parts (λ (o : Own). o.answer) _ _ present (ap (λ (b : Bool). (line_if 0 [] b).answer) there)

  abbrev sending : List ℕ → Console
  sending bytes = record empty_console { to_send = bytes }

  sending_if : List ℕ → Bool → Own
  sending_if bytes there = moving (asked_for 16 0 2 0) (console_view (asked_for 16 0 2 0) (sending bytes)) there (pos 2)
      (λ k. write_to (asked_for 16 0 2 0) (console_view (asked_for 16 0 2 0) (sending bytes)) k Shown_terminal)

  module _ (there : readable image 8192 2 ≡ true) where
    -- behind what is to be sent already
    sends_behind : console_of (own (console_view (asked_for 16 0 2 0) (sending (codes "z")))).next ≡ sending (codes "z" ++ image_bytes image 8192 2)
    unfolding own perform_parts perform_row row_of in_call asked_for console_view sending_if console_of
    sends_behind = by_parts (λ (o : Own). console_of o.next) _ _ refl (ap (λ (b : Bool). console_of (sending_if (codes "z") b).next) there)

    -- there is room for 2, for 1, for none
    sends_2 : (own (console_view (asked_for 16 0 2 0) (sending (replicate 30 0)))).answer ≡ Called (pos 16) (pos 2)
    unfolding own perform_parts perform_row row_of in_call asked_for console_view sending_if
    sends_2 = by_parts (λ (o : Own). o.answer) _ _ refl (ap (λ (b : Bool). (sending_if (replicate 30 0) b).answer) there)

    sends_1 : moved_of (own (console_view (asked_for 16 0 2 0) (sending (replicate 31 0)))).next ≡ Some 1
    unfolding own perform_parts perform_row row_of in_call asked_for console_view sending_if moved_of
    sends_1 = by_parts (λ (o : Own). moved_of o.next) _ _ refl (ap (λ (b : Bool). moved_of (sending_if (replicate 31 0) b).next) there)

    sends_none : moved_of (own (console_view (asked_for 16 0 2 0) (sending (replicate 32 0)))).next ≡ Some 0
    unfolding own perform_parts perform_row row_of in_call asked_for console_view sending_if moved_of
    sends_none = by_parts (λ (o : Own). moved_of o.next) _ _ refl (ap (λ (b : Bool). moved_of (sending_if (replicate 32 0) b).next) there)

-- ---- keys, on a console with a line of two bytes

abbrev line_ab : Console
line_ab = record { committed = codes "c"; uncommitted = codes "ab"; to_send = codes "s" }

abbrev with_lines : (committed uncommitted : List ℕ) → Console
with_lines committed uncommitted = record line_ab { committed = committed; uncommitted = uncommitted }

-- 0 and 16 do nothing; 8 and 127 take a byte back; 21 takes back the line
keys_ignored : line line_ab 0 ∷ line line_ab 16 ∷ [] ≡ (line_ab, []) ∷ (line_ab, []) ∷ []
keys_ignored = refl

keys_erase : line line_ab 8 ∷ line line_ab 127 ∷ [] ≡ replicate 2 (with_lines (codes "c") (codes "a"), 8 ∷ 32 ∷ 8 ∷ [])
keys_erase = refl

key_erases_line : line line_ab 21 ≡ (with_lines (codes "c") [], 8 ∷ 32 ∷ 8 ∷ 8 ∷ 32 ∷ 8 ∷ [])
key_erases_line = refl

-- of an empty line nothing is taken back, also where bytes are committed
keys_erase_none : line (with_lines (codes "c") []) 8 ∷ line (with_lines (codes "c") []) 127 ∷ line (with_lines (codes "c") []) 21 ∷ [] ≡ replicate 3 (with_lines (codes "c") [], [])
keys_erase_none = refl

-- Enter, byte 10 and byte 4 end the line; every other byte goes on
keys_end : line line_ab 13 ∷ line line_ab 10 ∷ line line_ab 4 ∷ [] ≡ (with_lines (codes "cab\n") [], 10 ∷ []) ∷
    (with_lines (codes "cab\n") [], 10 ∷ []) ∷ (with_lines (codes "cab" ++ 4 ∷ []) [], 4 ∷ []) ∷ []
keys_end = refl

key_goes_on : line line_ab 255 ≡ (with_lines (codes "c") (codes "ab" ++ 255 ∷ []), 255 ∷ [])
key_goes_on = refl

-- the 128th byte ends the line, and there is no room for another; erasing makes room
key_128 : line (with_lines (replicate 100 99) (replicate 27 97)) 98 ≡ (with_lines (replicate 100 99 ++ (replicate 27 97 ++ 98 ∷ [])) [], 98 ∷ [])
key_128 = refl

key_127 : line (with_lines (replicate 100 99) (replicate 26 97)) 98 ≡ (with_lines (replicate 100 99) (replicate 26 97 ++ 98 ∷ []), 98 ∷ [])
key_127 = refl

key_129 : line (with_lines (replicate 128 99) []) 10 ≡ (with_lines (replicate 128 99) [], [])
key_129 = refl
