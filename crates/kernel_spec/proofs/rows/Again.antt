-- A process that waits, and isn't ready, waits again and changes nothing.
use Rattle.kernel_spec.proofs.Prelude.{[], ℕ, ℤ, ◌&&◌, ◌++◌, ◌+◌, ◌-◌, ◌<◌, ◌||◌, ◌∙◌, ◌≡◌, ◌≤◌, add-zero, ap, append-nil, arith, bare, bare_shown, Blocked, Bool, c_int, Call, call_ready, can_read}
use Rattle.kernel_spec.proofs.Prelude.{can_write, change_pipe, cond, cond-false, cond-true, Descriptor, done, done_at, drop, End, false, first_bytes, fit, goes_on, going_on, has_bytes, has_child}
use Rattle.kernel_spec.proofs.Prelude.{has_passed, Image, in_use, inl, inr, is_some, least_zombie, leb_tells, length, length-take, line_length, List, Live, live, lt-ltb, ltb-false, ltb-true, min}
use Rattle.kernel_spec.proofs.Prelude.{nat_eq, nat_le, nat_lt, negsuc, next_bytes, None, not, not-false, on_shown, Option, option_map, or_parts, own, Pipe, PIPE_BYTES, pos, Pulled, pulled, Read}
use Rattle.kernel_spec.proofs.Prelude.{readable, ready, refl, refused, room_for, Row, row_of, row_ready, same_Some, SameDescriptors, SameRest, SEND_BYTES, Shown, Shown_file, Shown_pipe}
use Rattle.kernel_spec.proofs.Prelude.{Shown_terminal, Sleep, slice_get, Some, State, subst, sym, take, ticks_since, true, unless_killed, UnreadyWaits, up_to, View, view, view_of, Wait, waits}
use Rattle.kernel_spec.proofs.Prelude.{with_more, writable, Write, write_image}
use Rattle.kernel_spec.proofs.rows.Falls.{Falls, Sleepers, own_falls}
use Rattle.kernel_spec.proofs.steps.OneNameOnePipe.{shown_of, unchanged_by}
use Rattle.kernel_spec.proofs.steps.WritesKeepRights.{writable_written}
use Rattle.kernel_spec.proofs.rows.RowParts.{IsSettled, perform_parts, perform_row, unless, reaped, wait_parts, read_parts, read_on, read_from, read_line, moving, unless_nothing, write_parts}
use Rattle.kernel_spec.proofs.rows.RowParts.{write_on, write_to, write_terminal, write_pipe, length_of_int, sleep_parts}
use Rattle.kernel_spec.proofs.rows.RowsByParts.{perform_same}
use Rattle.kernel_spec.proofs.rows.SettledWaits.{still_settled, settled_written}
use Rattle.kernel_spec.proofs.rows.BareDescriptors.{bare_alike, bare_changed, in_use_bare}
use Rattle.kernel_spec.proofs.Common.{no_bytes}

-- whoever is in such a view, and is not ready, waits again
abbrev pub Again : View → ℤ → Type 0
Again n k = (s : State) (p : ℕ) (m : View) → view s p ≡ Some m → SameRest m n → SameDescriptors m n → ready m ≡ false → own m ≡ goes_on (Blocked k) m

-- ---- what is known of the view m in which a call c is in progress that isn't ready

-- it waits again, having moved no more
stays : (c : Call) (m : View) → m.call ≡ Some c → waits c c.moved m ≡ goes_on (Blocked c.number) m
stays c m e = λ i. goes_on (Blocked c.number) (record m { call = sym e i })

-- its row is what its step does, where no page of its buffer is absent
pub by_perform : (c : Call) (r : Row) (m : View) → m.killed ≡ false → m.call ≡ Some c → IsSettled c m → row_of c.number ≡ Some r → own m ≡ perform_row c m (Some r)
unfolding own perform_parts
by_perform c r m alive busy settled row = ap (unless_killed m) alive ∙ ap (going_on m) busy ∙ perform_same c m settled ∙ ap (perform_row c m) row

abbrev Waits_on : Row → Call → View → Type 0
Waits_on r c u =
    (s : State) (p : ℕ) (m : View) → view s p ≡ Some m → m.image ≡ u.image → SameDescriptors m u → row_ready m c (Some r) ≡ false
    → perform_row c m (Some r) ≡ waits c c.moved m

-- what has to be shown of a row that waits
falls_waits : (r : Row) (c : Call) (moved : ℕ) (u : View) → IsSettled c u → row_of c.number ≡ Some r → Waits_on r (record c { moved = moved }) u → Falls Again (waits c moved u)
unfolding ready
falls_waits r c moved u settled row h k n a e s p m see rest same shut =
    let now : Call = record c { moved = moved } in
    let is : record u { call = Some now } ≡ n = same_Some (record u { call = Some now }) n e in
    let parts = or_parts m.killed (call_ready m m.call) shut in
    let busy : m.call ≡ Some now = rest.3 ∙ sym (ap (λ (x : View). x.call) is) in
    let unready : row_ready m now (Some r) ≡ false = sym (ap (row_ready m now) row) ∙ sym (ap (call_ready m) busy) ∙ parts.1 in
    let number : c.number ≡ k = number_of c.number k a in
    let image : m.image ≡ u.image = rest.2 ∙ sym (ap (λ (x : View). x.image) is) in
    by_perform now r m parts.0 busy (still_settled c moved u m image settled) row
    ∙ h s p m see image (λ d. same d ∙ sym (ap (λ (x : View). bare (x.descriptors d)) is)) unready
    ∙ stays now m busy ∙ ap (λ (z : ℤ). goes_on (Blocked z) m) number
  where
    number_of : (x y : ℤ) → Blocked x ≡ Blocked y → x ≡ y
    number_of x y f = cc

-- ---- the rows

is_wait : (c : Call) (m : View) → perform_row c m (Some Wait) ≡ wait_parts c m
unfolding perform_row
is_wait c m = refl

is_read : (c : Call) (m : View) → perform_row c m (Some Read) ≡ read_parts c m
unfolding perform_row
is_read c m = refl

is_write : (c : Call) (m : View) → perform_row c m (Some Write) ≡ write_parts c m
unfolding perform_row
is_write c m = refl

is_sleep : (c : Call) (m : View) → perform_row c m (Some Sleep) ≡ sleep_parts c m
unfolding perform_row
is_sleep c m = refl

-- ---- wait

no_zombie : (c : Call) (m : View) (o : Option ℕ) → (is_some o || not (has_child m)) ≡ false → reaped c m o ≡ waits c 0 m
no_zombie c m (Some q) e = let no : ⊥ = cc in absurd no
no_zombie c m None e = ap (λ (b : Bool). cond b (waits c 0 m) (refused c m)) (not-false (has_child m) e)

wait_again : (c : Call) (v : View) → IsSettled c v → row_of c.number ≡ Some Wait → (not (nat_eq c.a0 0) && not (writable v.image c.a0 4)) ≡ false → Falls Again (waits c 0 v)
wait_again c v settled row there = falls_waits Wait c 0 v settled row (λ s p m see image same shut.
    let now : Call = record c { moved = 0 } in
    is_wait now m
    ∙ ap (λ (i : Image). unless (not (nat_eq c.a0 0) && not (writable i c.a0 4)) now m (λ _. reaped now m (least_zombie m))) image
    ∙ ap (λ (b : Bool). unless b now m (λ _. reaped now m (least_zombie m))) there
    ∙ no_zombie now m (least_zombie m) shut)

-- ---- numbers

under : (a b : ℕ) → nat_le a b ≡ false → nat_lt b a ≡ true
under a b e = elim (leb_tells a b) [ inl h ↦ let yes : nat_le a b ≡ true = h.0 in let no : ⊥ = cc in absurd no | inr h ↦ lt-ltb b a h.1 ]

no_room : (x had bound : ℕ) → nat_lt had bound ≡ false → min x (bound - had) ≡ 0
no_room x had bound e = let full : bound ≤ had = ltb-false had bound e in omega arith

-- ---- descriptors

terminal_like : (x : Shown) → bare_shown x ≡ Shown_terminal → x ≡ Shown_terminal
terminal_like Shown_terminal e = refl
terminal_like (Shown_file program offset) e = let no : ⊥ = cc in absurd no
terminal_like (Shown_pipe name end pipe) e = let no : ⊥ = cc in absurd no

pipe_like : (x : Shown) (name : ℕ) (end : End) (y : Pipe) → bare_shown x ≡ Shown_pipe name end y → (pipe : Pipe) × (x ≡ Shown_pipe name end pipe)
pipe_like Shown_terminal name end y e = let no : ⊥ = cc in absurd no
pipe_like (Shown_file program offset) name end y e = let no : ⊥ = cc in absurd no
pipe_like (Shown_pipe n f z) name end y e = let a : n ≡ name = cc in let b : f ≡ end = cc in (z, λ i. Shown_pipe (a i) (b i) z)

-- ---- read

read_again : (c : Call) (m : View) (e : Descriptor) (n : ℕ) (x : Shown) → in_use m (c_int c.a0) ≡ Some e → not e.read ≡ false → c_int c.a2 ≡ pos n → nat_eq n 0 ≡ false
    → not (writable m.image c.a1 (length_of_int (c_int c.a2))) ≡ false → e.shown ≡ x → perform_row c m (Some Read) ≡ read_from c m n e.file x
read_again c m e n x on reads size some there shows =
    is_read c m ∙ ap (read_on c m) on
    ∙ ap (λ (b : Bool). unless b c m (λ _. moving c m (writable m.image c.a1 (length_of_int (c_int c.a2))) (c_int c.a2) (λ k. read_from c m k e.file e.shown))) reads
    ∙ ap (λ (z : ℤ). moving c m (writable m.image c.a1 (length_of_int (c_int c.a2))) z (λ k. read_from c m k e.file e.shown)) size
    ∙ ap (λ (b : Bool). unless_nothing b c m (λ _. unless (not (writable m.image c.a1 (length_of_int (c_int c.a2)))) c m (λ _. read_from c m n e.file e.shown))) some
    ∙ ap (λ (b : Bool). unless b c m (λ _. read_from c m n e.file e.shown)) there
    ∙ ap (read_from c m n e.file) shows

abbrev nothing_pulled : Pulled
nothing_pulled = record { taken = []; ended = false; left = [] }

pulled_none : (first : Bool) (n : ℕ) → 0 < n → pulled first n [] ≡ nothing_pulled
pulled_none first n more = ap (λ (b : Bool). cond b (first_bytes n true []) nothing_pulled) (by (nat_le n 0) refl)
  where
    by : (b : Bool) → nat_le n 0 ≡ b → b ≡ false
    by true e = elim (leb_tells n 0) [ inl h ↦ let low : n ≤ 0 = h.1 in absurd (omega arith) | inr h ↦ let no : ⊥ = cc in absurd no ]
    by false e = refl

blank_line : (c : Call) (m : View) → m.console.committed ≡ [] → read_line c m nothing_pulled ≡ waits c c.moved m
unfolding write_image
blank_line c m none = λ i. waits c (add-zero c.moved i) (record m { console = record m.console { committed = sym none i } })

line_waits : (c : Call) (m : View) (n : ℕ) → 0 < n - c.moved → m.console.committed ≡ [] → read_line c m (pulled (nat_eq c.moved 0) (n - c.moved) m.console.committed) ≡ waits c c.moved m
line_waits c m n more none =
    ap (λ (xs : List ℕ). read_line c m (pulled (nat_eq c.moved 0) (n - c.moved) xs)) none
    ∙ ap (read_line c m) (pulled_none (nat_eq c.moved 0) (n - c.moved) more)
    ∙ blank_line c m none

-- a read that isn't over has taken less than it may
pull_short : (first : Bool) (n : ℕ) (bytes : List ℕ) → (pulled first n bytes).ended ≡ false → length (pulled first n bytes).taken < n
pull_short first n bytes h = by (nat_le n (line_length bytes)) refl h
  where
    rest : (o : Option ℕ) → line_length bytes < n → (up_to first bytes (line_length bytes) o).ended ≡ false → length (up_to first bytes (line_length bytes) o).taken < n
    rest None low g = let k : ℕ = line_length bytes in let t : ℕ = length (take k bytes) in let b : ℕ = length bytes in
        let e : t ≡ min k b = length-take k bytes in let less : k < n = low in let goal : t < n = omega arith in goal
    rest (Some byte) low g = inner (nat_eq byte 10) (first && nat_eq (line_length bytes) 0) g
      where
        inner : (x y : Bool)
            → (cond x (first_bytes (line_length bytes + 1) true bytes) (cond y (record { taken = []; ended = true; left = drop 1 bytes }) (first_bytes (line_length bytes) true bytes))).ended ≡ false
            → length (cond x (first_bytes (line_length bytes + 1) true bytes)
            (cond y (record { taken = []; ended = true; left = drop 1 bytes }) (first_bytes (line_length bytes) true bytes))).taken < n
        inner true y f = let no : ⊥ = cc in absurd no
        inner false true f = let no : ⊥ = cc in absurd no
        inner false false f = let no : ⊥ = cc in absurd no

    by : (b : Bool) → nat_le n (line_length bytes) ≡ b → (cond b (first_bytes n true bytes) (up_to first bytes (line_length bytes) (slice_get bytes (line_length bytes)))).ended ≡ false
        → length (cond b (first_bytes n true bytes) (up_to first bytes (line_length bytes) (slice_get bytes (line_length bytes)))).taken < n
    by true e g = let no : ⊥ = cc in absurd no
    by false e g = rest (slice_get bytes (line_length bytes)) (ltb-true (line_length bytes) n (under n (line_length bytes) e)) g

module _ (c : Call) (v : View) (settled : IsSettled c v) (row : row_of c.number ≡ Some Read) (d : Descriptor) (on : in_use v (c_int c.a0) ≡ Some d)
    (reads : not d.read ≡ false) (n : ℕ) (size : c_int c.a2 ≡ pos n) (some : nat_eq n 0 ≡ false)
    (there : not (writable v.image c.a1 (length_of_int (c_int c.a2))) ≡ false) where
  pipe_read : (name : ℕ) (end : End) (pipe : Pipe) → d.shown ≡ Shown_pipe name end pipe → Waits_on Read (record c { moved = 0 }) v
  pipe_read name end pipe shows s p m see image same shut =
      let now : Call = record c { moved = 0 } in
      let here = bare_alike (in_use m (c_int c.a0)) d (in_use_bare m v same (c_int c.a0) ∙ ap bare on) in
      let e : Descriptor = here.0 in
      let shown = pipe_like e.shown name end _ (here.4 ∙ ap bare_shown shows) in
      let empty : has_bytes shown.0 ≡ false = sym (ap (on_shown (can_read m)) here.1 ∙ ap (can_read m) shown.1) ∙ shut in
      read_again now m e n (Shown_pipe name end shown.0) here.1 (ap not here.2 ∙ reads) size some (ap (λ (i : Image). not (writable i c.a1 (length_of_int (c_int c.a2)))) image ∙ there) shown.1
      ∙ cond-true (not (has_bytes shown.0)) (waits now 0 m) _ (ap not empty)

  line_read : (k : ℕ) (u : View) (a : ℕ) (bytes : List ℕ) → d.shown ≡ Shown_terminal → 0 < n - k → u.image ≡ write_image v.image a bytes
      → u.descriptors ≡ v.descriptors → Waits_on Read (record c { moved = k }) u
  line_read k u a bytes shows more image_u table_u s p m see image same shut =
      let now : Call = record c { moved = k } in
      let here = bare_alike (in_use m (c_int c.a0)) d (in_use_bare m v (λ x. same x ∙ ap (λ (t : ℕ → Option Descriptor). bare (t x)) table_u) (c_int c.a0) ∙ ap bare on) in
      let e : Descriptor = here.0 in
      let shown = terminal_like e.shown (here.4 ∙ ap bare_shown shows) in
      let shuts : nat_lt 0 (length m.console.committed) ≡ false = sym (ap (on_shown (can_read m)) here.1 ∙ ap (can_read m) shown) ∙ shut in
      let still : not (writable m.image c.a1 (length_of_int (c_int c.a2))) ≡ false =
      ap (λ (i : Image). not (writable i c.a1 (length_of_int (c_int c.a2)))) (image ∙ image_u)
      ∙ ap not (writable_written bytes v.image a c.a1 (length_of_int (c_int c.a2))) ∙ there in
      read_again now m e n Shown_terminal here.1 (ap not here.2 ∙ reads) size some still shown
      ∙ line_waits now m n more (no_bytes m.console.committed shuts)

  line_again : d.shown ≡ Shown_terminal → let p : Pulled = pulled (nat_eq c.moved 0) (n - c.moved) v.console.committed in p.ended ≡ false
      → Falls Again (waits c (c.moved + length p.taken) (record v { image = write_image v.image (c.a1 + c.moved) p.taken; console = record v.console { committed = p.left } }))
  line_again shows over =
      let p : Pulled = pulled (nat_eq c.moved 0) (n - c.moved) v.console.committed in
      let after : View = record v { image = write_image v.image (c.a1 + c.moved) p.taken; console = record v.console { committed = p.left } } in
      falls_waits Read c (c.moved + length p.taken) after (settled_written c v p.taken (c.a1 + c.moved) settled) row
      (line_read (c.moved + length p.taken) after (c.a1 + c.moved) p.taken shows
      (let t : ℕ = length p.taken in
      let less : t < n - c.moved = pull_short (nat_eq c.moved 0) (n - c.moved) v.console.committed over in let goal : 0 < n - (c.moved + t) = omega arith in goal) refl refl)

-- ---- write

write_again : (c : Call) (m : View) (e : Descriptor) (n : ℕ) (x : Shown) → in_use m (c_int c.a0) ≡ Some e → not e.write ≡ false → c_int c.a2 ≡ pos n → nat_eq n 0 ≡ false
    → not (readable m.image c.a1 (length_of_int (c_int c.a2))) ≡ false → e.shown ≡ x → perform_row c m (Some Write) ≡ write_to c m n x
write_again c m e n x on writes size some there shows =
    is_write c m ∙ ap (write_on c m) on
    ∙ ap (λ (b : Bool). unless b c m (λ _. moving c m (readable m.image c.a1 (length_of_int (c_int c.a2))) (c_int c.a2) (λ k. write_to c m k e.shown))) writes
    ∙ ap (λ (z : ℤ). moving c m (readable m.image c.a1 (length_of_int (c_int c.a2))) z (λ k. write_to c m k e.shown)) size
    ∙ ap (λ (b : Bool). unless_nothing b c m (λ _. unless (not (readable m.image c.a1 (length_of_int (c_int c.a2)))) c m (λ _. write_to c m n e.shown))) some
    ∙ ap (λ (b : Bool). unless b c m (λ _. write_to c m n e.shown)) there
    ∙ ap (write_to c m n) shows

module _ (c : Call) (m : View) (n : ℕ) (more : nat_le n c.moved ≡ false) where
  abbrev sent_view : List ℕ → View
  sent_view bytes = record m { console = record m.console { to_send = bytes } }

  full_console : nat_lt (length m.console.to_send) SEND_BYTES ≡ false → write_terminal c m n ≡ waits c c.moved m
  full_console full =
      ap (λ (k : ℕ). done_at c n (c.moved + k) (sent_view (m.console.to_send ++ next_bytes c m k))) (no_room (n - c.moved) (length m.console.to_send) SEND_BYTES full)
      ∙ (λ i. done_at c n (add-zero c.moved i) (sent_view (append-nil m.console.to_send i)))
      ∙ cond-false (nat_le n c.moved) (done c (pos n) m) (waits c c.moved m) more

  full_pipe : (name : ℕ) (pipe : Pipe) → (nat_lt (length pipe.bytes) PIPE_BYTES || nat_eq pipe.readers 0) ≡ false
      → change_pipe name pipe m.descriptors ≡ m.descriptors → write_pipe c m name pipe n ≡ waits c c.moved m
  full_pipe name pipe full same =
      let parts = or_parts (nat_lt (length pipe.bytes) PIPE_BYTES) (nat_eq pipe.readers 0) full in
      ap (λ (b : Bool). unless b c m (λ _. done_at c n (c.moved + fit pipe (n - c.moved))
      (record m { descriptors = change_pipe name (with_more (next_bytes c m (fit pipe (n - c.moved))) pipe) m.descriptors }))) parts.1
      ∙ ap (λ (k : ℕ). done_at c n (c.moved + k) (record m { descriptors = change_pipe name (with_more (next_bytes c m k) pipe) m.descriptors }))
      (no_room (n - c.moved) (length pipe.bytes) PIPE_BYTES parts.0)
      ∙ (λ i. done_at c n (add-zero c.moved i) (record m { descriptors = change_pipe name (record pipe { bytes = append-nil pipe.bytes i }) m.descriptors }))
      ∙ (λ i. done_at c n c.moved (record m { descriptors = same i }))
      ∙ cond-false (nat_le n c.moved) (done c (pos n) m) (waits c c.moved m) more

-- a pipe that the view shows, put in its own place
module _ (s : State) (p : ℕ) (d name : ℕ) (end : End) (x : Pipe) where
  put_back : (l : Live) → shown_of ((view_of s p l).descriptors d) ≡ Some (Shown_pipe name end x) → change_pipe name x (view_of s p l).descriptors ≡ (view_of s p l).descriptors
  unfolding view_of
  put_back l is = unchanged_by s l d name end x is

  put_back_in : (o : Option Live) (m : View) → option_map (view_of s p) o ≡ Some m → shown_of (m.descriptors d) ≡ Some (Shown_pipe name end x) → change_pipe name x m.descriptors ≡ m.descriptors
  put_back_in None m see is = let no : ⊥ = cc in absurd no
  put_back_in (Some l) m see is =
      let same : view_of s p l ≡ m = same_Some (view_of s p l) m see in
      subst (λ (u : View). change_pipe name x u.descriptors ≡ u.descriptors) same (put_back l (ap (λ (u : View). shown_of (u.descriptors d)) same ∙ is))

on_number : (m : View) (e : Descriptor) (z : ℤ) → in_use m z ≡ Some e → (d : ℕ) × (m.descriptors d ≡ Some e)
on_number m e (pos d) h = (d, h)
on_number m e (negsuc k) h = let no : ⊥ = cc in absurd no

module _ (c : Call) (v : View) (settled : IsSettled c v) (row : row_of c.number ≡ Some Write) (d : Descriptor) (on : in_use v (c_int c.a0) ≡ Some d)
    (writes : not d.write ≡ false) (n : ℕ) (size : c_int c.a2 ≡ pos n) (some : nat_eq n 0 ≡ false)
    (there : not (readable v.image c.a1 (length_of_int (c_int c.a2))) ≡ false) where
  module _ (k : ℕ) (more : nat_le n k ≡ false) (u : View) (image_u : u.image ≡ v.image) (table_u : (x : ℕ) → bare (u.descriptors x) ≡ bare (v.descriptors x)) where
    abbrev now : Call
    now = record c { moved = k }

    pipe_write : (name : ℕ) (end : End) (pipe : Pipe) → d.shown ≡ Shown_pipe name end pipe → Waits_on Write now u
    pipe_write name end pipe shows s p m see image same shut =
        let here = bare_alike (in_use m (c_int c.a0)) d (in_use_bare m v (λ x. same x ∙ table_u x) (c_int c.a0) ∙ ap bare on) in
        let e : Descriptor = here.0 in
        let shown = pipe_like e.shown name end _ (here.4 ∙ ap bare_shown shows) in
        let full : (nat_lt (length shown.0.bytes) PIPE_BYTES || nat_eq shown.0.readers 0) ≡ false = sym (ap (on_shown (can_write m)) here.1 ∙ ap (can_write m) shown.1) ∙ shut in
        let place = on_number m e (c_int c.a0) here.1 in
        write_again now m e n (Shown_pipe name end shown.0) here.1 (ap not here.3 ∙ writes) size some
        (ap (λ (i : Image). not (readable i c.a1 (length_of_int (c_int c.a2)))) (image ∙ image_u) ∙ there) shown.1
        ∙ full_pipe now m n more name shown.0 full (put_back_in s p place.0 name end shown.0 (live s p) m see (ap shown_of place.1 ∙ ap Some shown.1))

    terminal_write : d.shown ≡ Shown_terminal → Waits_on Write now u
    terminal_write shows s p m see image same shut =
        let here = bare_alike (in_use m (c_int c.a0)) d (in_use_bare m v (λ x. same x ∙ table_u x) (c_int c.a0) ∙ ap bare on) in
        let e : Descriptor = here.0 in
        let shown = terminal_like e.shown (here.4 ∙ ap bare_shown shows) in
        let full : nat_lt (length m.console.to_send) SEND_BYTES ≡ false = sym (ap (on_shown (can_write m)) here.1 ∙ ap (can_write m) shown) ∙ shut in
        write_again now m e n Shown_terminal here.1 (ap not here.3 ∙ writes) size some (ap (λ (i : Image). not (readable i c.a1 (length_of_int (c_int c.a2)))) (image ∙ image_u) ∙ there) shown
        ∙ full_console now m n more full

-- ---- every step

again : (c : Call) (v : View) → IsSettled c v → Sleepers Again c v
again c v settled = record {
  wait_here = λ row room child none. wait_again c v settled row room;
  sleep_here = λ row not_yet. falls_waits Sleep c 0 v settled row (λ s p m see image same shut.
      let now : Call = record c { moved = 0 } in
      is_sleep now m
      ∙ cond-true (not (has_passed (ticks_since m.clock c.clock) (c_int c.a0))) (waits now 0 m) (done now (pos 0) m) (ap not shut));
  read_line_here = λ row d n r. line_again c v settled row d r.on r.mode n r.size r.some r.room;
  read_pipe_here = λ row d n r name end pipe shows none. falls_waits Read c 0 v settled row (pipe_read c v settled row d r.on r.mode n r.size r.some r.room name end pipe shows);
  write_line_here = λ row d n w shows more.
      let k = room_for v.console (n - c.moved) in
      let after : View = record v { console = record v.console { to_send = v.console.to_send ++ next_bytes c v k } } in
      falls_waits Write c (c.moved + k) after settled row
      (terminal_write c v settled row d w.on w.mode n w.size w.some w.room (c.moved + k) more after refl (λ x. refl) shows);
  write_pipe_here = λ row d n w name end pipe shows readers more.
      let k = fit pipe (n - c.moved) in
      let after : View = record v { descriptors = change_pipe name (with_more (next_bytes c v k) pipe) v.descriptors } in
      falls_waits Write c (c.moved + k) after settled row
      (pipe_write c v settled row d w.on w.mode n w.size w.some w.room (c.moved + k) more after refl (λ x. bare_changed _ (v.descriptors x)) name end pipe shows);
}

pub unready_waits : UnreadyWaits
unready_waits s p v n m number answer next see rest same shut = own_falls Again (λ c u alive settled. again c u settled) v number n answer next s p m see rest same shut
