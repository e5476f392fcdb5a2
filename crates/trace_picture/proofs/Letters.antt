-- The bytes of the console, event by event.
use Rattle.std.proofs.Common.{◌≡◌, ◌∙◌, ℕ, ◌+◌, ◌*◌, ◌<◌, ◌≤◌, Bool, true, false, List, [], ◌∷◌, ◌++◌, length, drop, take, flat_map, Option, None, Some, arith, refl, sym, ap, append_assoc, append-nil}
use Rattle.std.specs.Prelude.{if◌then◌else◌, max, min, nat_lt, slice_get}
use Rattle.std.specs.List.{range_with_len}
use Rattle.std.proofs.Math.Seq.{take-append_seam}
use Rattle.std.proofs.lemmas.Bool.{lt-ltb, ltb-true}
use Rattle.std.proofs.lemmas.List.{drop_all, length-append}
use Rattle.trace_picture.specs.Svg.{Letter, across, byte_in, byte_place, byte_shown, capped, free_after, letter_of_event, letter_shown, letters, letters_shown, room_behind}
use Rattle.trace_picture.specs.declared.note.Note.{Note}
use Rattle.trace_picture.specs.declared.picture.Console.{Console}

-- the bytes of these events, the first of which has this number, from `free` on
abbrev pub bytes_from : Console → (left events base event free : ℕ) → List Note → List ℕ
bytes_from line left events base event free [] = []
bytes_from line left events base event free (note ∷ rest) =
    if nat_lt (capped (capped (left + 1200) * 100)) free then []
    else byte_shown left events base event free (byte_in line note) ++ bytes_from line left events base (event + 1) (free_after left events event free (byte_in line note)) rest

-- there is no room left of the picture's edge, so none of these is shown
pub bytes-over : (line : Console) (left events base event free : ℕ) (notes : List Note) → capped (capped (left + 1200) * 100) < free → bytes_from line left events base event free notes ≡ []
bytes-over line left events base event free [] over = refl
bytes-over line left events base event free (note ∷ rest) over =
    ap (λ (b : Bool). if b then [] else byte_shown left events base event free (byte_in line note)
    ++ bytes_from line left events base (event + 1) (free_after left events event free (byte_in line note)) rest)
    (lt-ltb (capped (capped (left + 1200) * 100)) free over)

-- no event is left
pub no-bytes : (line : Console) (left events base event free : ℕ) (notes : List Note) → length notes ≤ event → bytes_from line left events base event free (drop event notes) ≡ []
no-bytes line left events base event free notes all = ap (bytes_from line left events base event free) (drop_all event notes all)

-- ---- room

module _ (left events : ℕ) where
  room-more : (done : List Letter) (l : Letter) → room_behind left events (done ++ l ∷ []) ≡ max (across left events l.event) (room_behind left events done) + 700
  room-more [] l = grind arith
  room-more (a ∷ done) l =
      let more = room-more done l in
      let long = length-append done (l ∷ []) in
      rw (more, long) (grind arith)

  free-more : (done : List Letter) (l : Letter) → capped (room_behind left events (done ++ l ∷ [])) ≡ capped (max (across left events l.event) (capped (room_behind left events done)) + 700)
  free-more done l = rw (room-more done l) (grind arith)

  free-grows : (done : List Letter) (l : Letter) → capped (room_behind left events done) ≤ capped (room_behind left events (done ++ l ∷ []))
  free-grows done l = rw (room-more done l) (grind arith)

-- ---- each letter behind those before it

module _ (left events base : ℕ) where
  abbrev letter_behind : (before : List Letter) → Option Letter → List ℕ
  letter_behind before letter = letter_shown left events base (capped (room_behind left events before)) letter

  abbrev shown_behind : (before : List Letter) → List Letter → List ℕ
  shown_behind before [] = []
  shown_behind before (l ∷ list) = letter_behind before (Some l) ++ shown_behind (before ++ l ∷ []) list

  abbrev at-place : (all : List Letter) → (place : ℕ) → List ℕ
  at-place all place = letter_behind (take place all) (slice_get all place)

  get-seam : (before : List Letter) (l : Letter) (list : List Letter) → slice_get (before ++ l ∷ list) (length before) ≡ Some l
  get-seam [] l list = refl
  get-seam (a ∷ before) l list = get-seam before l list

  by-place : (before list all : List Letter) → before ++ list ≡ all → flat_map (at-place all) (range_with_len (length before) (length list)) ≡ shown_behind before list
  by-place before [] all is = refl
  by-place before (l ∷ list) all is =
      let here : at-place all (length before) ≡ letter_behind before (Some l)
      = ap (λ (xs : List Letter). at-place xs (length before)) (sym is)
      ∙ ap (λ (xs : List Letter). letter_behind xs (slice_get (before ++ l ∷ list) (length before))) (take-append_seam before (l ∷ list))
      ∙ ap (λ (o : Option Letter). letter_behind before o) (get-seam before l list) in
      let rest = by-place (before ++ l ∷ []) list all (append_assoc before (l ∷ []) list ∙ is) in
      let long : length (before ++ l ∷ []) ≡ length before + 1 = length-append before (l ∷ []) in
      ap (λ (t : List ℕ). t ++ flat_map (at-place all) (range_with_len (length before + 1) (length list))) here
      ∙ ap (λ (t : List ℕ). letter_behind before (Some l) ++ t) (ap (λ (n : ℕ). flat_map (at-place all) (range_with_len n (length list))) (sym long) ∙ rest)

  pub all-behind : (list : List Letter) → shown_behind [] list ≡ letters_shown left events base list
  all-behind list = sym (by-place [] list list refl)

  -- ---- event by event

  abbrev edge : ℕ
  edge = capped (capped (left + 1200) * 100)

  over-or : (b : Bool) (some more : List ℕ) → (b ≡ true → more ≡ []) → (if b then [] else some ++ more) ≡ (if b then [] else some) ++ more
  over-or true some more none = sym (none refl)
  over-or false some more none = refl

  plain : (b : Bool) (t : List ℕ) → (if b then [] else []) ++ t ≡ t
  plain true t = refl
  plain false t = refl

  step : (line : Console) (done : List Letter) (event : ℕ) (byte : Option ℕ) (rest : List Note)
      → ((d : List Letter) → bytes_from line left events base (event + 1) (capped (room_behind left events d)) rest ≡ shown_behind d (letters line (event + 1) rest))
      → (if nat_lt edge (capped (room_behind left events done)) then [] else byte_shown left events base event (capped (room_behind left events done)) byte
      ++ bytes_from line left events base (event + 1) (free_after left events event (capped (room_behind left events done)) byte) rest)
      ≡ shown_behind done (letter_of_event event byte ++ letters line (event + 1) rest)
  step line done event None rest later =
      let free = capped (room_behind left events done) in
      let more = bytes_from line left events base (event + 1) free rest in
      over-or (nat_lt edge free) [] more (λ over. bytes-over line left events base (event + 1) free rest (ltb-true edge free over))
      ∙ plain (nat_lt edge free) more
      ∙ later done
  step line done event (Some byte) rest later =
      let free = capped (room_behind left events done) in
      let l : Letter = record { event = event; byte = byte } in
      let next = free_after left events event free (Some byte) in
      let more = bytes_from line left events base (event + 1) next rest in
      let same : capped (room_behind left events (done ++ l ∷ [])) ≡ next = free-more left events done l in
      over-or (nat_lt edge free) (byte_shown left events base event free (Some byte)) more
      (λ over. bytes-over line left events base (event + 1) next rest (omega (arith, ltb-true edge free over, free-grows left events done l, same)))
      ∙ ap (λ (t : List ℕ). letter_behind done (Some l) ++ t)
      (ap (λ (n : ℕ). bytes_from line left events base (event + 1) n rest) (sym same) ∙ later (done ++ l ∷ []))

  from-here : (line : Console) (done : List Letter) (event : ℕ) (notes : List Note)
      → bytes_from line left events base event (capped (room_behind left events done)) notes ≡ shown_behind done (letters line event notes)
  from-here line done event [] = refl
  from-here line done event (note ∷ rest) = step line done event (byte_in line note) rest (λ d. from-here line d (event + 1) rest)

  pub bytes-are : (line : Console) (notes : List Note) → bytes_from line left events base 0 0 notes ≡ letters_shown left events base (letters line 0 notes)
  bytes-are line notes = from-here line [] 0 notes ∙ all-behind (letters line 0 notes)
