-- Worked rows of the calls on descriptors: pipe, dup, open and close where descriptors or frames are used up, and which descriptor may be read and written.
-- Which of the caller's buffers are there is given.
use Rattle.kernel_spec.proofs.Prelude.{[], ℕ, ◌+◌, ◌-◌, ◌>>=◌, ◌>>◌, ◌^◌, ◌or◌, ◌when◌, ◌||◌, ◌∷◌, ◌≡◌, Answer, ap, Bool, Call, Called, close, codes, cond, Descriptor, Descriptors, dup, false}
use Rattle.kernel_spec.proofs.Prelude.{has_absent, Image, least_below, List, lowest_free, lowest_free_above, make_pipe, map, MAXPATH, named, nat_eq, nat_lt, negsuc, new_pipe, no_slashes, NOFILE, None}
use Rattle.kernel_spec.proofs.Prelude.{not, Option, Own, own, pages_at, perform, pos, read, readable, Reading, refl, row, row_of, Shown_file, Shown_pipe, Shown_terminal, Some, text_at, true, View}
use Rattle.kernel_spec.proofs.Prelude.{writable, write, write_image, Writing}
use Rattle.kernel_spec.proofs.worked.WorkedViews.{call, minus, in_call, ends_of, free_of, at_place, image_of}
use Rattle.kernel_spec.proofs.rows.RowParts.{perform_row, unless, moving, write_to, piped_from, open_path, perform_parts}
use Rattle.kernel_spec.proofs.rows.RowsByParts.{by_parts}

-- ---- tables with so many descriptors in use, all on one open file

-- the console, to read and to write
abbrev terminal : Descriptor
terminal = record { file = 0; read = true; write = true; shown = Shown_terminal }

abbrev used : ℕ → Descriptors
used n = λ d. cond (nat_lt d n) (Some terminal) None

-- the highest descriptor
abbrev last : ℕ
last = NOFILE - 1

-- all but these two
abbrev but : ℕ → ℕ → Descriptors
but a b = λ d. cond (nat_eq d a || nat_eq d b) None (Some terminal)

lowest_of_all : lowest_free (used 0) ≡ Some 0
unfolding least_below
lowest_of_all = refl

lowest_last : lowest_free (used last) ≡ Some last
unfolding least_below
lowest_last = refl

lowest_none : lowest_free (used NOFILE) ≡ None
unfolding least_below
lowest_none = refl

lowest_between : lowest_free (but 3 9) ≡ Some 3
unfolding least_below
lowest_between = refl

above_next : lowest_free_above (used 0) 0 ≡ Some 1
unfolding least_below
above_next = refl

above_between : lowest_free_above (but 3 9) 3 ≡ Some 9
unfolding least_below
above_between = refl

above_last : lowest_free_above (used (last - 1)) (last - 1) ≡ Some last
unfolding least_below
above_last = refl

above_none : lowest_free_above (used last) last ≡ None
unfolding least_below
above_none = refl

-- descriptors are 0 to the last one
descriptor_last : named (λ d. Some terminal) last ≡ Some terminal
unfolding named least_below
descriptor_last = refl

descriptor_past_last : named (λ d. Some terminal) NOFILE ≡ None
unfolding named
descriptor_past_last = refl

module _ (image : Image) where
  -- a view with this table in a call
  with_table : Descriptors → Call → View
  with_table t c = record (in_call image c) { descriptors = t }

  -- ---- pipe

  piping : Descriptors → ℕ → View
  piping t free = record (in_call image (call 4 0 0 0)) { descriptors = t; free = free }

  piping_if : Descriptors → ℕ → Bool → Own
  unfolding piping in_call
  piping_if t free there = unless (not there || nat_eq free 0) (call 4 0 0 0) (piping t free) (λ _. piped_from (call 4 0 0 0) (piping t free) (lowest_free t))

  module _ (there : writable image 0 8 ≡ true) (present : has_absent (pages_at 0 8) image ≡ false) where
    -- the last free frame, and none
    pipe_frame : (own (piping (used 0) 1)).answer ≡ Called (pos 4) (pos 0)
    unfolding own perform_parts perform_row row_of in_call piping piping_if least_below
    pipe_frame = by_parts (λ (o : Own). o.answer) _ _ present (ap (λ (b : Bool). (piping_if (used 0) 1 b).answer) there)

    pipe_takes_frame : free_of (own (piping (used 0) 1)).next ≡ 0
    unfolding own perform_parts perform_row row_of in_call piping piping_if least_below free_of
    pipe_takes_frame = by_parts (λ (o : Own). free_of o.next) _ _ present (ap (λ (b : Bool). free_of (piping_if (used 0) 1 b).next) there)

    pipe_no_frame : (own (piping (used 0) 0)).answer ≡ Called (pos 4) (negsuc 0)
    unfolding own perform_parts perform_row row_of in_call piping piping_if least_below
    pipe_no_frame = by_parts (λ (o : Own). o.answer) _ _ present (ap (λ (b : Bool). (piping_if (used 0) 0 b).answer) there)

    -- its two numbers, 4 bytes each, the read end's first
    pipe_bytes : image_of (own (piping (used 0) 1)).next ≡ write_image image 0 (0 ∷ 0 ∷ 0 ∷ 0 ∷ 1 ∷ 0 ∷ 0 ∷ 0 ∷ [])
    unfolding own perform_parts perform_row row_of in_call piping piping_if least_below image_of
    pipe_bytes = by_parts (λ (o : Own). image_of o.next) _ _ present (ap (λ (b : Bool). image_of (piping_if (used 0) 1 b).next) there)

    pipe_read_end : at_place (own (piping (used 0) 1)).next 0 ≡ Some (record { file = 0; read = true; write = false; shown = Shown_pipe 0 Reading new_pipe })
    unfolding own perform_parts perform_row row_of in_call piping piping_if least_below named at_place
    pipe_read_end = by_parts (λ (o : Own). at_place o.next 0) _ _ present (ap (λ (b : Bool). at_place (piping_if (used 0) 1 b).next 0) there)

    pipe_write_end : at_place (own (piping (used 0) 1)).next 1 ≡ Some (record { file = 1; read = false; write = true; shown = Shown_pipe 0 Writing (record { bytes = []; readers = 1; writers = 1 }) })
    unfolding own perform_parts perform_row row_of in_call piping piping_if least_below named at_place new_pipe
    pipe_write_end = by_parts (λ (o : Own). at_place o.next 1) _ _ present (ap (λ (b : Bool). at_place (piping_if (used 0) 1 b).next 1) there)

    pipe_rest : at_place (own (piping (used 0) 1)).next 2 ≡ None
    unfolding own perform_parts perform_row row_of in_call piping piping_if least_below named at_place
    pipe_rest = by_parts (λ (o : Own). at_place o.next 2) _ _ present (ap (λ (b : Bool). at_place (piping_if (used 0) 1 b).next 2) there)

    -- with holes at 3 and 9
    pipe_holes : image_of (own (piping (but 3 9) 1)).next ≡ write_image image 0 (3 ∷ 0 ∷ 0 ∷ 0 ∷ 9 ∷ 0 ∷ 0 ∷ 0 ∷ [])
    unfolding own perform_parts perform_row row_of in_call piping piping_if least_below image_of
    pipe_holes = by_parts (λ (o : Own). image_of o.next) _ _ present (ap (λ (b : Bool). image_of (piping_if (but 3 9) 1 b).next) there)

    -- two descriptors are free, the last ones; then one, and none
    pipe_two_left : image_of (own (piping (used (last - 1)) 9)).next ≡ write_image image 0 ((last - 1) ∷ 0 ∷ 0 ∷ 0 ∷ last ∷ 0 ∷ 0 ∷ 0 ∷ [])
    unfolding own perform_parts perform_row row_of in_call piping piping_if least_below image_of
    pipe_two_left = by_parts (λ (o : Own). image_of o.next) _ _ present (ap (λ (b : Bool). image_of (piping_if (used (last - 1)) 9 b).next) there)

    pipe_one_left : (own (piping (used last) 9)).answer ≡ Called (pos 4) (negsuc 0)
    unfolding own perform_parts perform_row row_of in_call piping piping_if least_below
    pipe_one_left = by_parts (λ (o : Own). o.answer) _ _ present (ap (λ (b : Bool). (piping_if (used last) 9 b).answer) there)

    pipe_one_left_takes_nothing : free_of (own (piping (used last) 9)).next ≡ 9
    unfolding own perform_parts perform_row row_of in_call piping piping_if least_below free_of
    pipe_one_left_takes_nothing = by_parts (λ (o : Own). free_of o.next) _ _ present (ap (λ (b : Bool). free_of (piping_if (used last) 9 b).next) there)

    pipe_none_left : (own (piping (used NOFILE) 9)).answer ≡ Called (pos 4) (negsuc 0)
    unfolding own perform_parts perform_row row_of in_call piping piping_if least_below
    pipe_none_left = by_parts (λ (o : Own). o.answer) _ _ present (ap (λ (b : Bool). (piping_if (used NOFILE) 9 b).answer) there)

  pipe_not_there : writable image 0 8 ≡ false → (own (piping (used 0) 9)).answer ≡ Called (pos 4) (negsuc 0)
  unfolding own in_call piping perform row row_of make_pipe ◌>>=◌ ◌>>◌ ◌when◌ ◌or◌
  pipe_not_there refusing = rw refusing refl

  -- ---- dup and close

  dup_one_left : (own (with_table (used last) (call 10 3 0 0))).answer ≡ Called (pos 10) (pos last)
  unfolding own in_call with_table least_below perform row row_of dup ◌>>=◌ ◌>>◌ ◌when◌ ◌or◌
  dup_one_left = refl

  dup_none_left : (own (with_table (used NOFILE) (call 10 3 0 0))).answer ≡ Called (pos 10) (negsuc 0)
  unfolding own in_call with_table least_below perform row row_of dup ◌>>=◌ ◌>>◌ ◌when◌ ◌or◌
  dup_none_left = refl

  dup_hole : (own (with_table (but 3 9) (call 10 last 0 0))).answer ≡ Called (pos 10) (pos 3)
  unfolding own in_call with_table least_below perform row row_of dup ◌>>=◌ ◌>>◌ ◌when◌ ◌or◌
  dup_hole = refl

  dup_free : (own (with_table (but 3 9) (call 10 3 0 0))).answer ≡ Called (pos 10) (negsuc 0)
  unfolding own in_call with_table least_below perform row row_of dup ◌>>=◌ ◌>>◌ ◌when◌ ◌or◌
  dup_free = refl

  dup_minus_1 : (own (with_table (used 3) (call 10 (minus 1) 0 0))).answer ≡ Called (pos 10) (negsuc 0)
  unfolding own in_call with_table least_below perform row row_of dup ◌>>=◌ ◌>>◌ ◌when◌ ◌or◌
  dup_minus_1 = refl

  dup_past_last : (own (with_table (used 3) (call 10 NOFILE 0 0))).answer ≡ Called (pos 10) (negsuc 0)
  unfolding own in_call with_table least_below perform row row_of dup ◌>>=◌ ◌>>◌ ◌when◌ ◌or◌
  dup_past_last = refl

  close_minus_1 : (own (with_table (used 3) (call 21 (minus 1) 0 0))).answer ≡ Called (pos 21) (negsuc 0)
  unfolding own in_call with_table perform row row_of close ◌>>=◌ ◌>>◌ ◌when◌ ◌or◌
  close_minus_1 = refl

  close_past_last : (own (with_table (used NOFILE) (call 21 NOFILE 0 0))).answer ≡ Called (pos 21) (negsuc 0)
  unfolding own in_call with_table perform row row_of close ◌>>=◌ ◌>>◌ ◌when◌ ◌or◌
  close_past_last = refl

  close_last : (own (with_table (used NOFILE) (call 21 last 0 0))).answer ≡ Called (pos 21) (pos 0)
  unfolding own in_call with_table perform row row_of close ◌>>=◌ ◌>>◌ ◌when◌ ◌or◌
  close_last = refl

  -- only the low 32 bits count
  dup_low_bits : (own (with_table (used 3) (call 10 (2 ^ 32 + 2) 0 0))).answer ≡ Called (pos 10) (pos 3)
  unfolding own in_call with_table least_below perform row row_of dup ◌>>=◌ ◌>>◌ ◌when◌ ◌or◌
  dup_low_bits = refl

  -- ---- which descriptor may be read and written, and in which order read and write test: the descriptor, the mode, n, the buffer

  -- descriptor 0 is on a read end, 1 on a write end, and 2 on a program's file
  three : Descriptors
  three = λ d. cond (nat_eq d 2) (Some (record { file = 2; read = true; write = false; shown = Shown_file 0 0 })) (ends_of (record { bytes = codes "xy"; readers = 1; writers = 1 }) d)

  answer_of : (number d n : ℕ) → Answer
  answer_of number d n = (own (with_table three (call number d 8192 n))).answer

  read_write_end : answer_of 5 1 10 ≡ Called (pos 5) (negsuc 0)
  unfolding own in_call with_table three answer_of perform row row_of read ◌>>=◌ ◌>>◌ ◌when◌ ◌or◌
  read_write_end = refl

  write_read_end : answer_of 16 0 10 ≡ Called (pos 16) (negsuc 0)
  unfolding own in_call with_table three answer_of perform row row_of write ◌>>=◌ ◌>>◌ ◌when◌ ◌or◌
  write_read_end = refl

  write_file : answer_of 16 2 10 ≡ Called (pos 16) (negsuc 0)
  unfolding own in_call with_table three answer_of perform row row_of write ◌>>=◌ ◌>>◌ ◌when◌ ◌or◌
  write_file = refl

  -- nor where a descriptor on it let writes through
  file_to_write : View
  file_to_write = with_table (λ d. Some (record { file = 0; read = true; write = true; shown = Shown_file 0 0 })) (call 16 2 8192 10)

  writing_file : Bool → Own
  writing_file there = moving (call 16 2 8192 10) file_to_write there (pos 10) (λ n. write_to (call 16 2 8192 10) file_to_write n (Shown_file 0 0))

  write_file_on : readable image 8192 10 ≡ true → (own file_to_write).answer ≡ Called (pos 16) (negsuc 0)
  unfolding own perform_parts perform_row row_of in_call with_table file_to_write writing_file
  write_file_on there = by_parts (λ (o : Own). o.answer) _ _ refl (ap (λ (b : Bool). (writing_file b).answer) there)

  -- the mode is tested before n
  read_0_write_end : answer_of 5 1 0 ≡ Called (pos 5) (negsuc 0)
  unfolding own in_call with_table three answer_of perform row row_of read ◌>>=◌ ◌>>◌ ◌when◌ ◌or◌
  read_0_write_end = refl

  write_0_read_end : answer_of 16 0 0 ≡ Called (pos 16) (negsuc 0)
  unfolding own in_call with_table three answer_of perform row row_of write ◌>>=◌ ◌>>◌ ◌when◌ ◌or◌
  write_0_read_end = refl

  -- n is tested before the buffer
  read_0 : answer_of 5 0 0 ≡ Called (pos 5) (pos 0)
  unfolding own in_call with_table three answer_of perform row row_of read ◌>>=◌ ◌>>◌ ◌when◌ ◌or◌
  read_0 = refl

  read_minus_1 : answer_of 5 0 (minus 1) ≡ Called (pos 5) (negsuc 0)
  unfolding own in_call with_table three answer_of perform row row_of read ◌>>=◌ ◌>>◌ ◌when◌ ◌or◌
  read_minus_1 = refl

  write_minus_1 : answer_of 16 1 (minus 1) ≡ Called (pos 16) (negsuc 0)
  unfolding own in_call with_table three answer_of perform row row_of write ◌>>=◌ ◌>>◌ ◌when◌ ◌or◌
  write_minus_1 = refl

  -- descriptors that are no number of one, or not in use, whatever n is
  read_free : map (λ d. answer_of 5 d 0) (3 ∷ last ∷ NOFILE ∷ 99 ∷ (minus 1) ∷ []) ≡ map (λ d. Called (pos 5) (negsuc 0)) (3 ∷ last ∷ NOFILE ∷ 99 ∷ (minus 1) ∷ [])
  unfolding own in_call with_table three answer_of perform row row_of read ◌>>=◌ ◌>>◌ ◌when◌ ◌or◌
  read_free = refl

  write_free : map (λ d. answer_of 16 d 0) (3 ∷ last ∷ NOFILE ∷ 99 ∷ (minus 1) ∷ []) ≡ map (λ d. Called (pos 16) (negsuc 0)) (3 ∷ last ∷ NOFILE ∷ 99 ∷ (minus 1) ∷ [])
  unfolding own in_call with_table three answer_of perform row row_of write ◌>>=◌ ◌>>◌ ◌when◌ ◌or◌
  write_free = refl

  -- a buffer that isn't there
  read_nowhere : writable image 8192 10 ≡ false → answer_of 5 0 10 ≡ Called (pos 5) (negsuc 0)
  unfolding own in_call with_table three answer_of perform row row_of read ◌>>=◌ ◌>>◌ ◌when◌ ◌or◌
  read_nowhere refusing = rw (answer_of, refusing) refl

  writing_if : Bool → Own
  writing_if there = moving (call 16 1 8192 10) (with_table three (call 16 1 8192 10)) there (pos 10)
      (λ n. write_to (call 16 1 8192 10) (with_table three (call 16 1 8192 10)) n (Shown_pipe 0 Writing (record { bytes = codes "xy"; readers = 1; writers = 1 })))

  write_nowhere : readable image 8192 10 ≡ false → answer_of 16 1 10 ≡ Called (pos 16) (negsuc 0)
  unfolding own perform_parts perform_row row_of in_call with_table three answer_of writing_if
  write_nowhere absent = by_parts (λ (o : Own). o.answer) _ _ refl (ap (λ (b : Bool). (writing_if b).answer) absent)

  -- ---- open: the console's modes, the programs by their places, and names that nothing has

  -- programs `a` and `b`, and this table
  opener : ℕ → Descriptors → View
  opener mode t = record (in_call image (call 15 0 mode 0)) {
    descriptors = t;
    programs = (record { name = codes "a"; bytes = codes "hello" }) ∷ (record { name = codes "b"; bytes = codes "hi" }) ∷ [];
  }

  opens : {X : Type 0} (asked : Own → X) (mode : ℕ) (t : Descriptors) (name : List ℕ) → text_at MAXPATH image 0 ≡ Some name
      → asked (open_path (call 15 0 mode 0) (opener mode t) (text_at MAXPATH image 0)) ≡ asked (open_path (call 15 0 mode 0) (opener mode t) (Some name))
  opens asked mode t name given = ap (λ (path : Option (List ℕ)). asked (open_path (call 15 0 mode 0) (opener mode t) path)) given

  module _ (name : List ℕ) (given : text_at MAXPATH image 0 ≡ Some name) where
    -- what descriptor 0 is then
    opened : (mode : ℕ) → (at_place (own (opener mode (used 0))).next 0) ≡ at_place (open_path (call 15 0 mode 0) (opener mode (used 0)) (Some name)).next 0
    unfolding own perform_parts perform_row row_of in_call opener at_place
    opened mode = by_parts (λ (o : Own). (at_place o.next 0)) _ _ refl (opens (λ o. at_place o.next 0) mode (used 0) name given)

    opened_answer : (mode : ℕ) (t : Descriptors) → (own (opener mode t)).answer ≡ (open_path (call 15 0 mode 0) (opener mode t) (Some name)).answer
    unfolding own perform_parts perform_row row_of in_call opener
    opened_answer mode t = by_parts (λ (o : Own). o.answer) _ _ refl (opens (λ o. o.answer) mode t name given)

  module _ (given : text_at MAXPATH image 0 ≡ Some (codes "console")) where
    console_0 : at_place (own (opener 0 (used 0))).next 0 ≡ Some (record { file = 0; read = true; write = false; shown = Shown_terminal })
    unfolding in_call opener no_slashes least_below named at_place
    console_0 = opened (codes "console") given 0

    console_2 : at_place (own (opener 2 (used 0))).next 0 ≡ Some (record { file = 0; read = true; write = true; shown = Shown_terminal })
    unfolding in_call opener no_slashes least_below named at_place
    console_2 = opened (codes "console") given 2

    console_3 : (own (opener 3 (used 0))).answer ≡ Called (pos 15) (negsuc 0)
    unfolding in_call opener no_slashes least_below
    console_3 = opened_answer (codes "console") given 3 (used 0)

    console_minus_1 : (own (opener (minus 1) (used 0))).answer ≡ Called (pos 15) (negsuc 0)
    unfolding in_call opener no_slashes least_below
    console_minus_1 = opened_answer (codes "console") given (minus 1) (used 0)

    console_answer : (own (opener 0 (used 5))).answer ≡ Called (pos 15) (pos 5)
    unfolding in_call opener no_slashes least_below
    console_answer = opened_answer (codes "console") given 0 (used 5)

    console_none_left : (own (opener 0 (used NOFILE))).answer ≡ Called (pos 15) (negsuc 0)
    unfolding in_call opener no_slashes least_below
    console_none_left = opened_answer (codes "console") given 0 (used NOFILE)

  console_1 : text_at MAXPATH image 0 ≡ Some (codes "/console") → at_place (own (opener 1 (used 0))).next 0 ≡ Some (record { file = 0; read = false; write = true; shown = Shown_terminal })
  unfolding in_call opener no_slashes least_below named at_place
  console_1 given = opened (codes "/console") given 1

  first_program : text_at MAXPATH image 0 ≡ Some (codes "a") → at_place (own (opener 0 (used 0))).next 0 ≡ Some (record { file = 0; read = true; write = false; shown = Shown_file 0 0 })
  unfolding in_call opener no_slashes least_below named at_place
  first_program given = opened (codes "a") given 0

  second_program : text_at MAXPATH image 0 ≡ Some (codes "//b") → at_place (own (opener 0 (used 0))).next 0 ≡ Some (record { file = 0; read = true; write = false; shown = Shown_file 1 0 })
  unfolding in_call opener no_slashes least_below named at_place
  second_program given = opened (codes "//b") given 0

  program_to_write : text_at MAXPATH image 0 ≡ Some (codes "b") → (own (opener 1 (used 0))).answer ≡ Called (pos 15) (negsuc 0)
  unfolding in_call opener no_slashes least_below
  program_to_write given = opened_answer (codes "b") given 1 (used 0)

  program_for_both : text_at MAXPATH image 0 ≡ Some (codes "b") → (own (opener 2 (used 0))).answer ≡ Called (pos 15) (negsuc 0)
  unfolding in_call opener no_slashes least_below
  program_for_both given = opened_answer (codes "b") given 2 (used 0)

  program_minus_1 : text_at MAXPATH image 0 ≡ Some (codes "b") → (own (opener (minus 1) (used 0))).answer ≡ Called (pos 15) (negsuc 0)
  unfolding in_call opener no_slashes least_below
  program_minus_1 given = opened_answer (codes "b") given (minus 1) (used 0)

  program_none_left : text_at MAXPATH image 0 ≡ Some (codes "a") → (own (opener 0 (used NOFILE))).answer ≡ Called (pos 15) (negsuc 0)
  unfolding in_call opener no_slashes least_below
  program_none_left given = opened_answer (codes "a") given 0 (used NOFILE)

  -- nothing has these names: another word for a terminal, a longer name, a name behind a folder's, and the empty name
  no_tty : text_at MAXPATH image 0 ≡ Some (codes "tty") → (own (opener 0 (used 0))).answer ≡ Called (pos 15) (negsuc 0)
  unfolding in_call opener no_slashes least_below
  no_tty given = opened_answer (codes "tty") given 0 (used 0)

  no_longer_name : text_at MAXPATH image 0 ≡ Some (codes "consoles") → (own (opener 0 (used 0))).answer ≡ Called (pos 15) (negsuc 0)
  unfolding in_call opener no_slashes least_below
  no_longer_name given = opened_answer (codes "consoles") given 0 (used 0)

  no_folder : text_at MAXPATH image 0 ≡ Some (codes "/b/a") → (own (opener 0 (used 0))).answer ≡ Called (pos 15) (negsuc 0)
  unfolding in_call opener no_slashes least_below
  no_folder given = opened_answer (codes "/b/a") given 0 (used 0)

  no_empty_name : text_at MAXPATH image 0 ≡ Some (codes "/") → (own (opener 0 (used 0))).answer ≡ Called (pos 15) (negsuc 0)
  unfolding in_call opener no_slashes least_below
  no_empty_name given = opened_answer (codes "/") given 0 (used 0)

  no_path : text_at MAXPATH image 0 ≡ None → (own (opener 0 (used 0))).answer ≡ Called (pos 15) (negsuc 0)
  unfolding own perform_parts perform_row row_of in_call opener
  no_path given = by_parts (λ (o : Own). o.answer) _ _ refl (ap (λ (path : Option (List ℕ)). (open_path (call 15 0 0 0) (opener 0 (used 0)) path).answer) given)
