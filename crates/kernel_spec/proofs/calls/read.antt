-- read: which call it is, and what is claimed of its row.
use Rattle.kernel_spec.proofs.Prelude.{[], ℕ, ◌&&◌, ◌+◌, ◌-◌, ◌<◌, ◌>>=◌, ◌or◌, ◌∙◌, ◌∷◌, ◌≡◌, ◌≤◌, advance, ap, arith, Bool, both_ways, c_int, Call, cases_lt, change_pipe, cond, Descriptor, done}
use Rattle.kernel_spec.proofs.Prelude.{drop, eqb-true, false, first_bytes, has_bytes, Image, in_use, inl, inr, le, leb-false, length, length-take, line_length, List, may, nat_eq, nat_le, nat_lt}
use Rattle.kernel_spec.proofs.Prelude.{natural, next_line, None, not, not-false, not-true, Option, or_parts, or_zero, Own, perform, Pipe, pos, program_bytes, Pulled, pulled, reaches, Read, read}
use Rattle.kernel_spec.proofs.Prelude.{read_stored, refl, refused, row, row_of, Shown, Shown_file, Shown_pipe, Shown_terminal, slice_get, Some, Store, stored_from, Storing, storing, subst, sym, take}
use Rattle.kernel_spec.proofs.Prelude.{there, true, unless_refused, up_to, View, waits, without_first, without_line, writable}
use Rattle.std.proofs.lemmas.Bool.{lt-ltb}
use Rattle.kernel_spec.proofs.rows.Touched.{IsTouched, touched_view}
use Rattle.kernel_spec.proofs.calls.Facts.{RowFacts, asleep, finished, refusal}
use Rattle.kernel_spec.proofs.calls.Words.{by_number, by_cond, by_moving, by_or, by_shown, by_test, by_touch}
use Rattle.kernel_spec.proofs.calls.Images.{Empty, allowed_before, allowed_none, bytes_empty, images_same, images_stored, images_touched, nothing_empty}
use Rattle.kernel_spec.proofs.calls.Tables.{advance_same, change_same, plain, table_same}
use Rattle.kernel_spec.proofs.rows.MayStore.{Allowed, of_buffer}

pub is_read : (c : Call) (v : View) → c.number ≡ pos 5 → perform c v ≡ read c v
unfolding row row_of ◌>>=◌ ◌or◌
is_read c v is = by_number c v (pos 5) is

empty_list : (xs : List ℕ) → length xs ≤ 0 → xs ≡ []
empty_list [] le = refl
empty_list (x ∷ xs) le = absurd (omega (arith, le))

-- ---- how many bytes a read stores

first_few : (n k : ℕ) (b : Bool) (bytes : List ℕ) → k ≤ n → length (first_bytes k b bytes).taken ≤ n
first_few n k b bytes le = omega (arith, length-take k bytes, le)

up_to_few : (first : Bool) (bytes : List ℕ) (n k : ℕ) (o : Option ℕ) → k < n → length (up_to first bytes k o).taken ≤ n
up_to_few first bytes n k None lt = first_few n k false bytes (omega (arith, lt))
up_to_few first bytes n k (Some byte) lt = by (nat_eq byte 10) (first && nat_eq k 0)
  where
    by : (b c : Bool) → length (cond b (first_bytes (k + 1) true bytes) (cond c (record { taken = []; ended = true; left = drop 1 bytes }) (first_bytes k true bytes))).taken ≤ n
    by true c = first_few n (k + 1) true bytes (omega (arith, lt))
    by false true = omega arith
    by false false = first_few n k true bytes (omega (arith, lt))

pulled_few : (first : Bool) (n : ℕ) (bytes : List ℕ) → length (pulled first n bytes).taken ≤ n
pulled_few first n bytes = by (nat_le n (line_length bytes)) refl
  where
    by : (b : Bool) → nat_le n (line_length bytes) ≡ b → length (cond b (first_bytes n true bytes) (up_to first bytes (line_length bytes) (slice_get bytes (line_length bytes)))).taken ≤ n
    by true e = first_few n n true bytes (omega arith)
    by false e = up_to_few first bytes n (line_length bytes) (slice_get bytes (line_length bytes)) (leb-false n (line_length bytes) e)

-- how many bytes it has moved before
abbrev pub moved_before : Call → Shown → ℕ
moved_before c Shown_terminal = c.moved
moved_before c (Shown_file program offset) = 0
moved_before c (Shown_pipe name end pipe) = 0

pub read_few : (c : Call) (v : View) (n : ℕ) (x : Shown) → length (read_stored c v n x).bytes ≤ n - moved_before c x
read_few c v n Shown_terminal = pulled_few (nat_eq c.moved 0) (n - c.moved) v.console.committed
read_few c v n (Shown_file program offset) = omega (arith, length-take n (drop offset (program_bytes (slice_get v.programs program))))
read_few c v n (Shown_pipe name end pipe) = omega (arith, length-take (there pipe n) pipe.bytes)

none_of_none : (c : Call) (v : View) (n : ℕ) (x : Shown) → nat_eq n 0 ≡ true → (read_stored c v n x).bytes ≡ []
none_of_none c v n x none = empty_list (read_stored c v n x).bytes (omega (arith, read_few c v n x, eqb-true n 0 none))

none_there : (pipe : Pipe) (n : ℕ) → has_bytes pipe ≡ false → take (there pipe n) pipe.bytes ≡ []
none_there pipe n none = empty_list (take (there pipe n) pipe.bytes) (omega (arith, length-take (there pipe n) pipe.bytes, short))
  where
    short : length pipe.bytes ≤ 0
    short = elim (cases_lt 0 (length pipe.bytes)) [
      | inl some ↦ absurd (both_ways _ (or_parts (nat_lt 0 (length pipe.bytes)) (nat_eq pipe.writers 0) none).0 (lt-ltb 0 (length pipe.bytes) some))
      | inr few ↦ few
    ]

-- ---- the row

module _ (c : Call) (v : View) (its : row_of c.number ≡ Some Read) where
  -- what is stored, if the read isn't refused
  abbrev Ends : Store → Own → Type 0
  Ends s o = RowFacts c v (λ answer. unless_refused answer s) o

  refuses : (s : Store) → Ends s (refused c v)
  refuses s = refusal c v (λ answer. unless_refused answer s) nothing_empty

  -- by the descriptor and the number of bytes
  stored_is : (d : Descriptor) (n : ℕ) → in_use v (c_int c.a0) ≡ Some d → natural (c_int c.a2) ≡ Some n → stored_from c v (in_use v (c_int c.a0)) ≡ read_stored c v n d.shown
  stored_is d n used count = ap (stored_from c v) used ∙ ap (λ (m : Option ℕ). read_stored c v (or_zero m) d.shown) count

  abbrev Here : Own → Type 0
  Here o = Ends (stored_from c v (in_use v (c_int c.a0))) o

  here : (d : Descriptor) (n : ℕ) → in_use v (c_int c.a0) ≡ Some d → natural (c_int c.a2) ≡ Some n → (o : Own) → Ends (read_stored c v n d.shown) o → Here o
  here d n used count o h = subst (λ (s : Store). Ends s o) (sym (stored_is d n used count)) h

  -- no byte is asked for
  none_asked : (d : Descriptor) → in_use v (c_int c.a0) ≡ Some d → natural (c_int c.a2) ≡ Some 0 → Here (done c (pos 0) v)
  none_asked d used count =
      let s = read_stored c v 0 d.shown in
      let empty : Empty s = bytes_empty s (none_of_none c v 0 d.shown refl) in
      here d 0 used count (done c (pos 0) v) (finished c v (λ answer. unless_refused answer s) its refl 0 (done c (pos 0) v) v refl refl refl refl
      (images_same s v.image v.image empty (λ page. refl)) (allowed_none s v.image empty) (λ q h. h) (λ _. plain v.descriptors))

  module _ (n : ℕ) (image : Image) (free : ℕ) (touched : IsTouched v.image image) (all : reaches Storing image c.a1 n ≡ true) where
    abbrev t : View
    t = touched_view v image free

    place_is : (x : Shown) → (read_stored c v n x).address ≡ c.a1 + moved_before c x
    place_is Shown_terminal = refl
    place_is (Shown_file program offset) = omega arith
    place_is (Shown_pipe name end pipe) = omega arith

    allowed : (x : Shown) → Allowed image (read_stored c v n x)
    allowed x = of_buffer image c.a1 n (moved_before c x) (read_stored c v n x) all (place_is x) (read_few c v n x)

    reads_line : (p : Pulled) (s : Store) → Allowed image s → Ends s (let k = c.moved + length p.taken in
        let after : View = record t { image = storing s image; console = without_line p v.console } in
        cond p.ended (done c (pos k) after) (waits c k after))
    reads_line p s may =
        let k = c.moved + length p.taken in
        let after : View = record t { image = storing s image; console = without_line p v.console } in
        by_cond (Ends s) p.ended
        (finished c v (λ answer. unless_refused answer s) its refl k (done c (pos k) after) after refl refl refl refl
        (images_stored s v.image image touched may) (allowed_before s v.image image touched may) (λ q h. h) (λ _. plain v.descriptors))
        (asleep c v (λ answer. unless_refused answer s) its refl k after refl refl
        (images_stored s v.image image touched may) (allowed_before s v.image image touched may) (λ _. plain v.descriptors))

    reads_file : (file : ℕ) (s : Store) → Allowed image s
        → Ends s (done c (pos (length s.bytes)) (record t { image = storing s image; descriptors = advance file (length s.bytes) v.descriptors }))
    reads_file file s may =
        let k = length s.bytes in
        let after : View = record t { image = storing s image; descriptors = advance file k v.descriptors } in
        finished c v (λ answer. unless_refused answer s) its refl k (done c (pos k) after) after refl refl refl refl
        (images_stored s v.image image touched may) (allowed_before s v.image image touched may) (λ q h. h)
        (λ _. table_same v.descriptors (advance file k v.descriptors) (advance_same file k v.descriptors))

    reads_pipe : (name : ℕ) (pipe : Pipe) (s : Store) → Allowed image s
        → Ends s (done c (pos (there pipe n)) (record t { image = storing s image; descriptors = change_pipe name (without_first (there pipe n) pipe) v.descriptors }))
    reads_pipe name pipe s may =
        let after : View = record t { image = storing s image; descriptors = change_pipe name (without_first (there pipe n) pipe) v.descriptors } in
        finished c v (λ answer. unless_refused answer s) its refl (there pipe n) (done c (pos (there pipe n)) after) after refl refl refl refl
        (images_stored s v.image image touched may) (allowed_before s v.image image touched may) (λ q h. h)
        (λ _. table_same v.descriptors after.descriptors (change_same _ v.descriptors))

    waits_pipe : (s : Store) → s.bytes ≡ [] → Ends s (waits c 0 t)
    waits_pipe s none = asleep c v (λ answer. unless_refused answer s) its refl 0 t refl refl
        (images_touched s v.image image (bytes_empty s none) touched) (allowed_none s v.image (bytes_empty s none)) (λ _. plain v.descriptors)

  pub read_facts : Here (read c v)
  unfolding read
  read_facts = by_or Here (in_use v (c_int c.a0)) no_read (by_shown Here (λ d. in_use v (c_int c.a0) ≡ Some d) _
      (λ file r w used. let d : Descriptor = record { file = file; read = r; write = w; shown = Shown_terminal } in
      by_moving Here r (c_int c.a2) (writable v.image c.a1) no_read (none_asked d used) (λ n count _ room. by_touch Here c.a1 n v _ no_read (λ image free touched reached.
      here d n used count _ (reads_line n image free touched (reached (not-false (writable v.image c.a1 n) room)) (next_line v.console c.moved (n - c.moved)) (read_stored c v n Shown_terminal)
      (allowed n image free touched (reached (not-false (writable v.image c.a1 n) room)) Shown_terminal)))))
      (λ file r w program offset used. let d : Descriptor = record { file = file; read = r; write = w; shown = Shown_file program offset } in
      by_moving Here r (c_int c.a2) (writable v.image c.a1) no_read (none_asked d used) (λ n count _ room. by_touch Here c.a1 n v _ no_read (λ image free touched reached.
      here d n used count _ (reads_file n image free touched (reached (not-false (writable v.image c.a1 n) room)) file (read_stored c v n (Shown_file program offset))
      (allowed n image free touched (reached (not-false (writable v.image c.a1 n) room)) (Shown_file program offset))))))
      (λ file r w name end pipe used. let d : Descriptor = record { file = file; read = r; write = w; shown = Shown_pipe name end pipe } in
      by_moving Here r (c_int c.a2) (writable v.image c.a1) no_read (none_asked d used) (λ n count _ room. by_touch Here c.a1 n v _ no_read (λ image free touched reached.
      by_test Here (not (has_bytes pipe))
      (λ none. here d n used count _ (waits_pipe n image free touched (reached (not-false (writable v.image c.a1 n) room)) (read_stored c v n (Shown_pipe name end pipe))
      (none_there pipe n (not-true (has_bytes pipe) none))))
      (λ _. here d n used count _ (reads_pipe n image free touched (reached (not-false (writable v.image c.a1 n) room)) name pipe (read_stored c v n (Shown_pipe name end pipe))
      (allowed n image free touched (reached (not-false (writable v.image c.a1 n) room)) (Shown_pipe name end pipe))))))))
    where
      no_read : Here (refused c v)
      no_read = refuses (stored_from c v (in_use v (c_int c.a0)))
