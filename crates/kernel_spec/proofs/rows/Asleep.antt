-- A process that falls asleep isn't ready.
use Rattle.kernel_spec.proofs.Prelude.{[], ℕ, ℤ, ◌&&◌, ◌++◌, ◌+◌, ◌-◌, ◌<◌, ◌||◌, ◌∙◌, ◌∷◌, ◌≡◌, ◌≤◌, ap, arith, BlocksUnready, Bool, c_int, Call, can_read, can_write, change_pipe, change_shown}
use Rattle.kernel_spec.proofs.Prelude.{changed, cond, Descriptor, drop, drop_all, End, eq-eqb, false, first_bytes, fit, has_bytes, has_child, has_passed, image_byte, in_use, inl, inr, is_some, le-ltb}
use Rattle.kernel_spec.proofs.Prelude.{least_zombie, leb_tells, length, length-map-range_with_len, line_length, List, live, min, nat_eq, nat_le, nat_lt, negsuc, next_bytes, None, none-some, not}
use Rattle.kernel_spec.proofs.Prelude.{not-true, on_shown, Option, Own, own, Pipe, PIPE_BYTES, pos, Pulled, pulled, Read, ready, refl, room_for, Row, row_of, row_ready, same_Some, SEND_BYTES, Shown}
use Rattle.kernel_spec.proofs.Prelude.{Shown_pipe, Shown_terminal, Sleep, slice_get, slice_get_cases, Some, subst, suc, sym, ticks_since, true, up_to, View, Wait, waits, with_more, Write, write_image}
use Rattle.kernel_spec.proofs.rows.Falls.{Falls, Reads, Sleepers, Writes, own_falls}

-- a step that ends in sleep ends in a view that isn't ready
abbrev Unready : View → ℤ → Type 0
Unready n k = ready n ≡ false

abbrev pub Sleeps_unready : Own → Type 0
Sleeps_unready o = Falls Unready o

pub falls_waits : (c : Call) (moved : ℕ) (v : View) → v.killed ≡ false
    → row_ready (record v { call = Some (record c { moved = moved }) }) (record c { moved = moved }) (row_of c.number) ≡ false
    → Sleeps_unready (waits c moved v)
unfolding ready
falls_waits c moved v alive h k n a e = sym (ap ready (same_Some (record v { call = Some (record c { moved = moved }) }) n e)) ∙ (λ i. alive i || h i)

-- ---- numbers

length_both : (xs ys : List ℕ) → length (xs ++ ys) ≡ length xs + length ys
length_both [] ys = let n : ℕ = length ys in let g : n ≡ 0 + n = omega arith in g
length_both (x ∷ xs) ys = ap suc (length_both xs ys) ∙ (let a : ℕ = length xs in let b : ℕ = length ys in let g : suc (a + b) ≡ suc a + b = omega arith in g)

-- where not all is moved, what there was room for is full
filled : (moved n bound had : ℕ) → nat_le n (moved + min (n - moved) (bound - had)) ≡ false → bound ≤ had + min (n - moved) (bound - had)
filled moved n bound had h = elim (leb_tells (n - moved) (bound - had)) [
  | inl g ↦
      let fits : n - moved ≤ bound - had = g.1 in
      let is : min (n - moved) (bound - had) ≡ n - moved = omega arith in
      let all : n ≤ moved + min (n - moved) (bound - had) = subst (λ (k : ℕ). n ≤ moved + k) (sym is) (omega arith) in
      let yes : nat_le n (moved + min (n - moved) (bound - had)) ≡ true =
      elim (leb_tells n (moved + min (n - moved) (bound - had)))
      [ inl t ↦ t.0 | inr t ↦ absurd (let less : moved + min (n - moved) (bound - had) < n = t.1 in omega arith) ] in
      let no : ⊥ = cc in absurd no
  | inr g ↦
      let less : bound - had < n - moved = g.1 in let is : min (n - moved) (bound - had) ≡ bound - had = omega arith in
      subst (λ (k : ℕ). bound ≤ had + k) (sym is) (omega arith)
]

-- ---- a line

up_to_empty : (first : Bool) (bytes : List ℕ) (k : ℕ) (o : Option ℕ) → slice_get bytes k ≡ o → (up_to first bytes k o).ended ≡ false → (up_to first bytes k o).left ≡ []
up_to_empty first bytes k None e h = elim ((slice_get_cases bytes k).1) [
  | inl within ↦ absurd (none-some within.0 (sym e ∙ within.2))
  | inr past ↦ drop_all k bytes past.0
]
up_to_empty first bytes k (Some byte) e h = by (nat_eq byte 10) (first && nat_eq k 0) h
  where
    by : (x y : Bool) → (cond x (first_bytes (k + 1) true bytes) (cond y (record { taken = []; ended = true; left = drop 1 bytes }) (first_bytes k true bytes))).ended ≡ false
        → (cond x (first_bytes (k + 1) true bytes) (cond y (record { taken = []; ended = true; left = drop 1 bytes }) (first_bytes k true bytes))).left ≡ []
    by true y g = let no : ⊥ = cc in absurd no
    by false true g = let no : ⊥ = cc in absurd no
    by false false g = let no : ⊥ = cc in absurd no

-- a read that isn't over leaves nothing
pull_empty : (first : Bool) (n : ℕ) (bytes : List ℕ) → (pulled first n bytes).ended ≡ false → (pulled first n bytes).left ≡ []
pull_empty first n bytes h = by (nat_le n (line_length bytes)) h
  where
    by : (b : Bool) → (cond b (first_bytes n true bytes) (up_to first bytes (line_length bytes) (slice_get bytes (line_length bytes)))).ended ≡ false
        → (cond b (first_bytes n true bytes) (up_to first bytes (line_length bytes) (slice_get bytes (line_length bytes)))).left ≡ []
    by true g = let no : ⊥ = cc in absurd no
    by false g = up_to_empty first bytes (line_length bytes) (slice_get bytes (line_length bytes)) refl g

-- ---- the rows

module _ (c : Call) (v : View) (alive : v.killed ≡ false) where
  row_waits : (moved : ℕ) (u : View) (r : Row) → u.killed ≡ false → row_of c.number ≡ Some r
      → row_ready (record u { call = Some (record c { moved = moved }) }) (record c { moved = moved }) (Some r) ≡ false → Sleeps_unready (waits c moved u)
  row_waits moved u r live is shut = falls_waits c moved u live (ap (row_ready (record u { call = Some (record c { moved = moved }) }) (record c { moved = moved })) is ∙ shut)

  wait_here : row_of c.number ≡ Some Wait → has_child v ≡ true → least_zombie v ≡ None → Sleeps_unready (waits c 0 v)
  wait_here is child e = row_waits 0 v Wait alive is (λ i. is_some (e i) || not (child i))

  sleep_here : row_of c.number ≡ Some Sleep → not (has_passed (ticks_since v.clock c.clock) (c_int c.a0)) ≡ true → Sleeps_unready (waits c 0 v)
  sleep_here is h = row_waits 0 v Sleep alive is (not-true (has_passed (ticks_since v.clock c.clock) (c_int c.a0)) h)

  line_here : row_of c.number ≡ Some Read → (d : Descriptor) (n : ℕ) → Reads c v d n → d.shown ≡ Shown_terminal
      → let p : Pulled = pulled (nat_eq c.moved 0) (n - c.moved) v.console.committed in p.ended ≡ false
      → Sleeps_unready (waits c (c.moved + length p.taken) (record v { image = write_image v.image (c.a1 + c.moved) p.taken; console = record v.console { committed = p.left } }))
  line_here row d n r shows over =
      let p : Pulled = pulled (nat_eq c.moved 0) (n - c.moved) v.console.committed in
      let after : View = record v { image = write_image v.image (c.a1 + c.moved) p.taken; console = record v.console { committed = p.left } } in
      let waiting : View = record after { call = Some (record c { moved = c.moved + length p.taken }) } in
      row_waits (c.moved + length p.taken) after Read alive row (ap (on_shown (can_read waiting)) r.on ∙ ap (can_read waiting) shows
      ∙ ap (λ (xs : List ℕ). nat_lt 0 (length xs)) (pull_empty (nat_eq c.moved 0) (n - c.moved) v.console.committed over))

  pipe_here : row_of c.number ≡ Some Read → (d : Descriptor) (n : ℕ) → Reads c v d n → (name : ℕ) (end : End) (pipe : Pipe) → d.shown ≡ Shown_pipe name end pipe
      → not (has_bytes pipe) ≡ true → Sleeps_unready (waits c 0 v)
  pipe_here row d n r name end pipe shows none =
      let waiting : View = record v { call = Some (record c { moved = 0 }) } in
      row_waits 0 v Read alive row (ap (on_shown (can_read waiting)) r.on ∙ ap (can_read waiting) shows ∙ not-true (has_bytes pipe) none)

  -- ---- write

  module _ (row : row_of c.number ≡ Some Write) (n : ℕ) where
    abbrev written : View
    written = record v { console = record v.console { to_send = v.console.to_send ++ next_bytes c v (room_for v.console (n - c.moved)) } }

    abbrev console_moved : ℕ
    console_moved = c.moved + room_for v.console (n - c.moved)

    queue_full : nat_le n console_moved ≡ false → nat_lt (length (v.console.to_send ++ next_bytes c v (room_for v.console (n - c.moved)))) SEND_BYTES ≡ false
    queue_full h = le-ltb (length (v.console.to_send ++ next_bytes c v (room_for v.console (n - c.moved)))) SEND_BYTES
        (subst (λ (z : ℕ). SEND_BYTES ≤ z) (sym (length_both v.console.to_send (next_bytes c v (room_for v.console (n - c.moved)))
        ∙ ap (λ (z : ℕ). length v.console.to_send + z) (length-map-range_with_len (image_byte v.image) (c.a1 + c.moved)
        (room_for v.console (n - c.moved)))))
        (filled c.moved n SEND_BYTES (length v.console.to_send) h))

    module _ (name : ℕ) (pipe : Pipe) where
      abbrev pipe_moved : ℕ
      pipe_moved = c.moved + fit pipe (n - c.moved)

      abbrev pipe_after : Pipe
      pipe_after = with_more (next_bytes c v (fit pipe (n - c.moved))) pipe

      abbrev pushed_view : View
      pushed_view = record v { descriptors = change_pipe name pipe_after v.descriptors }

      pipe_full : nat_le n pipe_moved ≡ false → nat_lt (length pipe_after.bytes) PIPE_BYTES ≡ false
      pipe_full h = le-ltb (length pipe_after.bytes) PIPE_BYTES
          (subst (λ (z : ℕ). PIPE_BYTES ≤ z) (sym (length_both pipe.bytes (next_bytes c v (fit pipe (n - c.moved)))
          ∙ ap (λ (z : ℕ). length pipe.bytes + z) (length-map-range_with_len (image_byte v.image) (c.a1 + c.moved) (fit pipe (n - c.moved)))))
          (filled c.moved n PIPE_BYTES (length pipe.bytes) h))

      in_use_changed : (z : ℤ) → in_use pushed_view z ≡ changed (λ m x. cond (nat_eq m name) pipe_after x) (in_use v z)
      in_use_changed (pos d) = refl
      in_use_changed (negsuc k) = refl

    sends_here : (d : Descriptor) → Writes c v d n → d.shown ≡ Shown_terminal → nat_le n console_moved ≡ false → Sleeps_unready (waits c console_moved written)
    sends_here d w shows h =
        let waiting : View = record written { call = Some (record c { moved = console_moved }) } in
        row_waits console_moved written Write alive row (ap (on_shown (can_write waiting)) w.on ∙ ap (can_write waiting) shows ∙ queue_full h)

    pushes_here : (d : Descriptor) → Writes c v d n → (name : ℕ) (end : End) (pipe : Pipe) → d.shown ≡ Shown_pipe name end pipe → nat_eq pipe.readers 0 ≡ false
        → nat_le n (pipe_moved name pipe) ≡ false → Sleeps_unready (waits c (pipe_moved name pipe) (pushed_view name pipe))
    pushes_here d w name end pipe shows read h =
        let waiting : View = record (pushed_view name pipe) { call = Some (record c { moved = pipe_moved name pipe }) } in
        row_waits (pipe_moved name pipe) (pushed_view name pipe) Write alive row
        (ap (on_shown (can_write waiting)) (in_use_changed name pipe (c_int c.a0) ∙ ap (changed (λ m x. cond (nat_eq m name) (pipe_after name pipe) x)) w.on)
        ∙ ap (λ (z : Shown). can_write waiting (change_shown (λ m x. cond (nat_eq m name) (pipe_after name pipe) x) z)) shows
        ∙ (λ i. has_room_in (cond (eq-eqb name name refl i) (pipe_after name pipe) pipe))
        ∙ (λ i. pipe_full name pipe h i || read i))
      where
        has_room_in : Pipe → Bool
        has_room_in x = nat_lt (length x.bytes) PIPE_BYTES || nat_eq x.readers 0

  unready : Sleepers Unready c v
  unready = record {
    wait_here = λ row room child none. wait_here row child none;
    sleep_here = sleep_here;
    read_line_here = line_here;
    read_pipe_here = pipe_here;
    write_line_here = λ row d n. sends_here row n d;
    write_pipe_here = λ row d n. pushes_here row n d;
  }

-- who falls asleep isn't ready
pub own_unready : (v : View) → Sleeps_unready (own v)
own_unready v = own_falls Unready (λ c u alive settled. unready c u alive) v

pub blocks_unready : BlocksUnready
blocks_unready v n number a e = own_unready v number n a e
