-- A call that has waited isn't refused later, but for a write to a pipe that nobody reads any more.
use Rattle.kernel_spec.proofs.Prelude.{[], ℕ, ℤ, ◌&&◌, ◌++◌, ◌+◌, ◌-◌, ◌||◌, ◌∙◌, ◌∷◌, ◌≡◌, ◌≢◌, advance, ap, bare, bare_shown, Bool, c_int, Call, Called, change_pipe, Child, child_of, child_status}
use Rattle.kernel_spec.proofs.Prelude.{cond, Descriptor, done, done_at, drop, End, eqb-true, Event, Exited, false, FinMap, fit, get, gone, gone_with, Happens, has_bytes, has_child, has_passed, Image}
use Rattle.kernel_spec.proofs.Prelude.{in_use, inl, inr, is_some, IsBrokenWrite, IsSome, IsStepOf, least_zombie, length, List, list_any, Live, live, minus_one, nat_cmp, nat_eq, nat_le, negsuc}
use Rattle.kernel_spec.proofs.Prelude.{next_bytes, None, not, OnlyBrokenWritesFailLate, Option, option_map, option_or, or_right, Others, Outcome, Own, own, Pipe, pos, Process, program_bytes, Pulled}
use Rattle.kernel_spec.proofs.Prelude.{pulled, Read, readable, refl, refused, room_for, Row, row_of, same_Some, SameDescriptors, SameRest, seen, seen_children, Shown, Shown_file, Shown_pipe}
use Rattle.kernel_spec.proofs.Prelude.{Shown_terminal, Sleep, slice_get, Some, State, Status, StepOf, subst, sym, table, take, there, ticks_since, true, unless_killed, View, view, view_of, Wait}
use Rattle.kernel_spec.proofs.Prelude.{waited, waits, with_more, without_first, World, writable, Write, write_image}
use Rattle.kernel_spec.proofs.steps.SeenByParts.{same_child}
use Rattle.kernel_spec.proofs.rows.Falls.{Falls, Sleepers, own_falls}
use Rattle.kernel_spec.proofs.steps.WritesKeepRights.{writable_written}
use Rattle.kernel_spec.proofs.rows.RowNumbers.{row-number}
use Rattle.kernel_spec.proofs.steps.ViewIsSharedAndRest.{rest}
use Rattle.kernel_spec.proofs.steps.OthersKeepTheRest.{kept, kept_others, pid_is}
use Rattle.kernel_spec.proofs.turns.KeepsSlots.{listed}
use Rattle.kernel_spec.proofs.rows.Pids.{has}
use Rattle.kernel_spec.proofs.runs.Cuts.{IsOutside, kind}
use Rattle.kernel_spec.proofs.rows.RowParts.{IsSettled, perform_row, unless, reaped, read_on, read_from, moving, unless_nothing, write_on, write_to, length_of_int, sleep_for, told, without_child}
use Rattle.kernel_spec.proofs.rows.SettledWaits.{still_settled, settled_written}
use Rattle.kernel_spec.proofs.Common.{view_pids}
use Rattle.kernel_spec.proofs.rows.BareDescriptors.{bare_alike, bare_changed, in_use_bare}
use Rattle.kernel_spec.proofs.rows.Again.{by_perform}

-- ---- a step that is refused is a write to a pipe that nobody reads

abbrev Broken : View → Call → Type 0
Broken m c =
    (d : ℕ) × (x : Descriptor) × (name : ℕ) × (end : End) × (pipe : Pipe)
    × (row_of c.number ≡ Some Write) × (c_int c.a0 ≡ pos d) × (m.descriptors d ≡ Some x) × (x.shown ≡ Shown_pipe name end pipe) × (pipe.readers ≡ 0)

abbrev OnlyBroken : View → Call → Own → Type 0
OnlyBroken m c o = (number : ℤ) → o.answer ≡ Called number minus_one → Broken m c

module _ (c : Call) (m : View) where
  fine_done : (k : ℕ) (u : View) → OnlyBroken m c (done c (pos k) u)
  fine_done k u number e = let no : ⊥ = cc in absurd no

  fine_waits : (moved : ℕ) (u : View) → OnlyBroken m c (waits c moved u)
  fine_waits moved u number e = let no : ⊥ = cc in absurd no

  fine_cond : (b : Bool) (x y : Own) → OnlyBroken m c x → OnlyBroken m c y → OnlyBroken m c (cond b x y)
  fine_cond true x y h g = h
  fine_cond false x y h g = g

  fine_unless : (b : Bool) (go : Unit {0} → Own) → b ≡ false → OnlyBroken m c (go tt) → OnlyBroken m c (unless b c m go)
  fine_unless true go e h = let no : ⊥ = cc in absurd no
  fine_unless false go e h = h

  fine_nothing : (b : Bool) (go : Unit {0} → Own) → OnlyBroken m c (go tt) → OnlyBroken m c (unless_nothing b c m go)
  fine_nothing true go h = fine_done 0 m
  fine_nothing false go h = h

  fine_moving : (r : Bool) (z : ℤ) (go : ℕ → Own) (n : ℕ) → z ≡ pos n → not r ≡ false → ((k : ℕ) → OnlyBroken m c (go k)) → OnlyBroken m c (moving c m r z go)
  fine_moving r (negsuc k) go n e there h = let no : ⊥ = cc in absurd no
  fine_moving r (pos k) go n e there h = fine_nothing (nat_eq k 0) (λ _. unless (not r) c m (λ _. go k)) (fine_unless (not r) (λ _. go k) there (h k))

  fine_read : (n file : ℕ) (x : Shown) → OnlyBroken m c (read_from c m n file x)
  fine_read n file Shown_terminal =
      let p : Pulled = pulled (nat_eq c.moved 0) (n - c.moved) m.console.committed in
      let after : View = record m { image = write_image m.image (c.a1 + c.moved) p.taken; console = record m.console { committed = p.left } } in
      fine_cond p.ended (done c (pos (c.moved + length p.taken)) after) (waits c (c.moved + length p.taken) after)
      (fine_done (c.moved + length p.taken) after) (fine_waits (c.moved + length p.taken) after)
  fine_read n file (Shown_file program offset) =
      let bytes : List ℕ = take n (drop offset (program_bytes (slice_get m.programs program))) in
      fine_done (length bytes) (record m { image = write_image m.image c.a1 bytes; descriptors = advance file (length bytes) m.descriptors })
  fine_read n file (Shown_pipe name end pipe) =
      let k : ℕ = there pipe n in
      let after : View = record m { image = write_image m.image c.a1 (take k pipe.bytes); descriptors = change_pipe name (without_first k pipe) m.descriptors } in
      fine_cond (not (has_bytes pipe)) (waits c 0 m) (done c (pos k) after) (fine_waits 0 m) (fine_done k after)

  fine_at : (n moved : ℕ) (u : View) → OnlyBroken m c (done_at c n moved u)
  fine_at n moved u = fine_cond (nat_le n moved) (done c (pos n) u) (waits c moved u) (fine_done n u) (fine_waits moved u)

  -- on the console or a pipe
  fine_write : row_of c.number ≡ Some Write → (d : ℕ) (e : Descriptor) → c_int c.a0 ≡ pos d → m.descriptors d ≡ Some e → (n : ℕ) (x : Shown)
      → e.shown ≡ x → ((program offset : ℕ) → x ≢ Shown_file program offset) → OnlyBroken m c (write_to c m n x)
  fine_write row d e at on n Shown_terminal is other =
      fine_at n (c.moved + room_for m.console (n - c.moved))
      (record m { console = record m.console { to_send = m.console.to_send ++ next_bytes c m (room_for m.console (n - c.moved)) } })
  fine_write row d e at on n (Shown_file program offset) is other = absurd (other program offset refl)
  fine_write row d e at on n (Shown_pipe name end pipe) is other = by (nat_eq pipe.readers 0) refl
    where
      go : Unit {0} → Own
      go _ = done_at c n (c.moved + fit pipe (n - c.moved)) (record m { descriptors = change_pipe name (with_more (next_bytes c m (fit pipe (n - c.moved))) pipe) m.descriptors })

      by : (b : Bool) → nat_eq pipe.readers 0 ≡ b → OnlyBroken m c (unless b c m go)
      by true none number answer = (d, e, name, end, pipe, row, at, on, is, eqb-true pipe.readers 0 none)
      by false some number answer = fine_at n (c.moved + fit pipe (n - c.moved))
          (record m { descriptors = change_pipe name (with_more (next_bytes c m (fit pipe (n - c.moved))) pipe) m.descriptors }) number answer

-- ---- whoever waits in such a view n, and sees m later

abbrev Late : View → ℤ → Type 0
Late n k = (m : View) → SameRest m n → SameDescriptors m n → (has_child n ≡ true → has_child m ≡ true) → (number : ℤ) → (own m).answer ≡ Called number minus_one → IsBrokenWrite m

abbrev is_write_row : Row → Bool
is_write_row Write = true
is_write_row _ = false

marked_own : (m : View) → m.killed ≡ true → own m ≡ gone (Exited minus_one) m
unfolding own
marked_own m marked = ap (unless_killed m) marked

-- what is to be shown of a row that waits
abbrev Goes_on : Row → Call → View → Type 0
Goes_on r c u = (m : View) → m.image ≡ u.image → SameDescriptors m u → (has_child u ≡ true → has_child m ≡ true) → OnlyBroken m c (perform_row c m (Some r))

falls_waits : (r : Row) (c : Call) (moved : ℕ) (u : View) → IsSettled c u → row_of c.number ≡ Some r → Goes_on r (record c { moved = moved }) u → Falls Late (waits c moved u)
falls_waits r c moved u settled row h k n a e m rest same kids number answer = by m.killed refl
  where
    is : record u { call = Some (record c { moved = moved }) } ≡ n
    is = same_Some (record u { call = Some (record c { moved = moved }) }) n e

    busy : m.call ≡ Some (record c { moved = moved })
    busy = rest.3 ∙ sym (ap (λ (x : View). x.call) is)

    image : m.image ≡ u.image
    image = rest.2 ∙ sym (ap (λ (x : View). x.image) is)

    by : (b : Bool) → m.killed ≡ b → IsBrokenWrite m
    by true marked = let no : Exited minus_one ≡ Called number minus_one = sym (ap (λ (o : Own). o.answer) (marked_own m marked)) ∙ answer in let bad : ⊥ = cc in absurd bad
    by false alive =
        let broken = h m image (λ d. same d ∙ sym (ap (λ (x : View). bare (x.descriptors d)) is))
        (λ some. kids (sym (ap has_child is) ∙ some)) number
        (sym (ap (λ (o : Own). o.answer) (by_perform (record c { moved = moved }) r m alive busy (still_settled c moved u m image settled) row))
        ∙ answer) in
        (record c { moved = moved }, broken.0, broken.1, broken.2, broken.3, broken.4, busy, row-number is_write_row Write 16 refl refl c.number broken.5, broken.6, broken.7, broken.8, broken.9)

-- ---- wait and sleep

module _ (c : Call) (v : View) where
  wait_later : (not (nat_eq c.a0 0) && not (writable v.image c.a0 4)) ≡ false → has_child v ≡ true → Goes_on Wait (record c { moved = 0 }) v
  unfolding perform_row
  wait_later there some m image same kids =
      fine_unless (record c { moved = 0 }) m (not (nat_eq c.a0 0) && not (writable m.image c.a0 4))
      (λ _. reaped (record c { moved = 0 }) m (least_zombie m))
      (ap (λ (i : Image). not (nat_eq c.a0 0) && not (writable i c.a0 4)) image ∙ there) (by (least_zombie m))
    where
      by : (o : Option ℕ) → OnlyBroken m (record c { moved = 0 }) (reaped (record c { moved = 0 }) m o)
      by (Some q) = fine_done (record c { moved = 0 }) m q (told c.a0 (child_status (m.children q)) (without_child q m))
      by None = subst (λ (b : Bool). OnlyBroken m (record c { moved = 0 })
          (cond b (waits (record c { moved = 0 }) 0 m) (refused (record c { moved = 0 }) m))) (sym (kids some)) (fine_waits (record c { moved = 0 }) m 0 m)

  sleep_later : Goes_on Sleep (record c { moved = 0 }) v
  unfolding perform_row
  sleep_later m image same kids = by (c_int c.a0)
    where
      by : (z : ℤ) → OnlyBroken m (record c { moved = 0 }) (sleep_for (record c { moved = 0 }) m z)
      by z = fine_cond (record c { moved = 0 }) m (not (has_passed (ticks_since m.clock c.clock) z)) (waits (record c { moved = 0 }) 0 m)
          (done (record c { moved = 0 }) (pos 0) m) (fine_waits (record c { moved = 0 }) m 0 m) (fine_done (record c { moved = 0 }) m 0 m)

-- ---- descriptors

on_number : (m : View) (e : Descriptor) (z : ℤ) → in_use m z ≡ Some e → (d : ℕ) × (z ≡ pos d) × (m.descriptors d ≡ Some e)
on_number m e (pos d) h = (d, refl, h)
on_number m e (negsuc k) h = let no : ⊥ = cc in absurd no

-- ---- read

module _ (c : Call) (v : View) (d : Descriptor) (on : in_use v (c_int c.a0) ≡ Some d) (n : ℕ) (size : c_int c.a2 ≡ pos n) where
  read_later : not d.read ≡ false → not (writable v.image c.a1 (length_of_int (c_int c.a2))) ≡ false → (k : ℕ) (u : View)
      → (writable u.image c.a1 (length_of_int (c_int c.a2)) ≡ writable v.image c.a1 (length_of_int (c_int c.a2))) → u.descriptors ≡ v.descriptors
      → Goes_on Read (record c { moved = k }) u
  unfolding perform_row
  read_later reads there k u buffer table m image same kids =
      let here = bare_alike (in_use m (c_int c.a0)) d (in_use_bare m v (λ x. same x ∙ ap (λ (t : ℕ → Option Descriptor). bare (t x)) table) (c_int c.a0) ∙ ap bare on) in
      subst (λ (o : Option Descriptor). OnlyBroken m (record c { moved = k }) (read_on (record c { moved = k }) m o)) (sym here.1) (by here.0 (ap not here.2 ∙ reads))
    where
      still : not (writable m.image c.a1 (length_of_int (c_int c.a2))) ≡ false
      still = ap (λ (i : Image). not (writable i c.a1 (length_of_int (c_int c.a2)))) image ∙ ap not buffer ∙ there

      by : (e : Descriptor) → not e.read ≡ false → OnlyBroken m (record c { moved = k }) (read_on (record c { moved = k }) m (Some e))
      by e can = fine_unless (record c { moved = k }) m (not e.read)
          (λ _. moving (record c { moved = k }) m (writable m.image c.a1 (length_of_int (c_int c.a2))) (c_int c.a2)
          (λ j. read_from (record c { moved = k }) m j e.file e.shown)) can
          (fine_moving (record c { moved = k }) m (writable m.image c.a1 (length_of_int (c_int c.a2))) (c_int c.a2)
          (λ j. read_from (record c { moved = k }) m j e.file e.shown) n size still (λ j. fine_read (record c { moved = k }) m j e.file e.shown))

-- ---- write

abbrev is_file : Shown → Bool
is_file Shown_terminal = false
is_file (Shown_file program offset) = true
is_file (Shown_pipe name end pipe) = false

bare_file : (x : Shown) → is_file (bare_shown x) ≡ is_file x
bare_file Shown_terminal = refl
bare_file (Shown_file program offset) = refl
bare_file (Shown_pipe name end pipe) = refl

module _ (c : Call) (v : View) (d : Descriptor) (on : in_use v (c_int c.a0) ≡ Some d) (n : ℕ) (size : c_int c.a2 ≡ pos n) (settled : IsSettled c v)
    (row : row_of c.number ≡ Some Write) (writes : not d.write ≡ false) (room : not (readable v.image c.a1 (length_of_int (c_int c.a2))) ≡ false) where
  write_later : is_file d.shown ≡ false → (k : ℕ) (u : View) → u.image ≡ v.image → ((x : ℕ) → bare (u.descriptors x) ≡ bare (v.descriptors x)) → Goes_on Write (record c { moved = k }) u
  unfolding perform_row
  write_later kind k u same_image table m image same kids =
      let here = bare_alike (in_use m (c_int c.a0)) d (in_use_bare m v (λ x. same x ∙ table x) (c_int c.a0) ∙ ap bare on) in
      let at = on_number m here.0 (c_int c.a0) here.1 in
      let other : is_file here.0.shown ≡ false = sym (bare_file here.0.shown) ∙ ap is_file here.4 ∙ bare_file d.shown ∙ kind in
      subst (λ (o : Option Descriptor). OnlyBroken m (record c { moved = k }) (write_on (record c { moved = k }) m o)) (sym here.1) (by here.0 at.0 at.1 at.2 (ap not here.3 ∙ writes) other)
    where
      still : not (readable m.image c.a1 (length_of_int (c_int c.a2))) ≡ false
      still = ap (λ (i : Image). not (readable i c.a1 (length_of_int (c_int c.a2)))) (image ∙ same_image) ∙ room

      by : (e : Descriptor) (x : ℕ) → c_int c.a0 ≡ pos x → m.descriptors x ≡ Some e → not e.write ≡ false → is_file e.shown ≡ false
          → OnlyBroken m (record c { moved = k }) (write_on (record c { moved = k }) m (Some e))
      by e x at is can other = fine_unless (record c { moved = k }) m (not e.write)
          (λ _. moving (record c { moved = k }) m (readable m.image c.a1 (length_of_int (c_int c.a2))) (c_int c.a2)
          (λ j. write_to (record c { moved = k }) m j e.shown)) can
          (fine_moving (record c { moved = k }) m (readable m.image c.a1 (length_of_int (c_int c.a2))) (c_int c.a2) (λ j. write_to (record c { moved = k }) m j e.shown) n size still
          (λ j. fine_write (record c { moved = k }) m row x e at is j e.shown refl (λ program offset file. let no : false ≡ true = sym other ∙ ap is_file file in let bad : ⊥ = cc in bad)))

late : (c : Call) (v : View) → IsSettled c v → Sleepers Late c v
late c v settled = record {
  wait_here = λ row room child none. falls_waits Wait c 0 v settled row (wait_later c v room child);
  sleep_here = λ row not_yet. falls_waits Sleep c 0 v settled row (sleep_later c v);
  read_line_here = λ row d n r shows over.
      let p : Pulled = pulled (nat_eq c.moved 0) (n - c.moved) v.console.committed in
      let after : View = record v { image = write_image v.image (c.a1 + c.moved) p.taken; console = record v.console { committed = p.left } } in
      falls_waits Read c (c.moved + length p.taken) after (settled_written c v p.taken (c.a1 + c.moved) settled) row
      (read_later c v d r.on n r.size r.mode r.room (c.moved + length p.taken) after (writable_written p.taken v.image (c.a1 + c.moved) c.a1 (length_of_int (c_int c.a2))) refl);
  read_pipe_here = λ row d n r name end pipe shows none. falls_waits Read c 0 v settled row (read_later c v d r.on n r.size r.mode r.room 0 v refl refl);
  write_line_here = λ row d n w shows more.
      let k = room_for v.console (n - c.moved) in
      let after : View = record v { console = record v.console { to_send = v.console.to_send ++ next_bytes c v k } } in
      falls_waits Write c (c.moved + k) after settled row (write_later c v d w.on n w.size settled row w.mode w.room (ap is_file shows) (c.moved + k) after refl (λ x. refl));
  write_pipe_here = λ row d n w name end pipe shows readers more.
      let k = fit pipe (n - c.moved) in
      let after : View = record v { descriptors = change_pipe name (with_more (next_bytes c v k) pipe) v.descriptors } in
      falls_waits Write c (c.moved + k) after settled row
      (write_later c v d w.on n w.size settled row w.mode w.room (ap is_file shows) (c.moved + k) after refl (λ x. bare_changed _ (v.descriptors x)));
}

own_late : (v : View) → Falls Late (own v)
own_late v = own_falls Late (λ c u alive settled. late c u settled) v

-- ---- children stay children while others make steps

abbrev Keeps : View → View → Type 0
Keeps n m = (q : ℕ) → IsSome (n.children q) → IsSome (m.children q)

seen_keeps : (gone : Option ℤ) (v w : View) (q : ℕ) → IsSome (w.children q) → IsSome (seen_children gone v w q)
seen_keeps None v w q some = some
seen_keeps (Some status) v w q some = by (nat_eq q v.pid) (w.children q) some
  where
    by : (b : Bool) (o : Option Child) → IsSome o → IsSome (option_or (cond b (same_child o (Status status)) o) (cond (nat_eq w.pid 1) (v.children q) None))
    by true None h = let no : ⊥ = cc in absurd no
    by true (Some x) h = refl
    by false None h = let no : ⊥ = cc in absurd no
    by false (Some x) h = refl

children_are : (s : State) (p : ℕ) (o : Option Live) (v : View) → option_map (view_of s p) o ≡ Some v → (q : ℕ) → v.children q ≡ child_of p (get s.processes q)
unfolding view_of
children_are s p None v e q = let no : ⊥ = cc in absurd no
children_are s p (Some l) v e q = ap (λ (x : View). x.children q) (sym (same_Some (view_of s p l) v e))

-- one event that is no step of p's
module _ (p : ℕ) (w t : World) (n m : View) (before : view w.state p ≡ Some n) (after : view t.state p ≡ Some m) where
  step_keeps : (q : ℕ) (o : Outcome) → StepOf w q o t → p ≢ q → Keeps n m
  unfolding seen
  step_keeps q o h apart =
      let is : seen w.state h.before (own h.before) n ≡ m =
      same_Some (seen w.state h.before (own h.before) n) m
      (sym (h.state.others p n (λ e. apart (e ∙ pid_is w.state q (live w.state q) h.before h.was)) before) ∙ after) in
      λ c some. subst (λ (x : View). IsSome (x.children c)) is (seen_keeps (gone_with (own h.before).answer) h.before n c some)

  outside_keeps : (o : Outcome) → IsOutside w o t → Keeps n m
  outside_keeps o h c some =
      sym (ap is_some (children_are w.state p (live w.state p) n before c
      ∙ ap (λ (x : FinMap nat_cmp Process). child_of p (get x c)) (sym h.processes) ∙ sym (children_are t.state p (live t.state p) m after c))) ∙ some

  event_keeps : (e : Event) (o : Outcome) → Happens w e o t → ¬ IsStepOf p w e → Keeps n m
  event_keeps e o h apart = elim (kind w t e o h) [
    | inl step ↦ step_keeps step.0 o step.2 (λ same. apart (subst (λ (q : ℕ). IsStepOf q w e) (sym same) step.1))
    | inr outside ↦ outside_keeps o outside
  ]

others_keep_children : (p : ℕ) (w t : World) (es : List (Event × Outcome)) (n m : View) → Others p w es t → view w.state p ≡ Some n → view t.state p ≡ Some m → Keeps n m
others_keep_children p w t [] n m others before after q some = subst (λ (x : View). IsSome (x.children q)) (same_Some n m (sym before ∙ ap (λ (x : World). view x.state p) (sym others) ∙ after)) some
others_keep_children p w t (e ∷ es) n m others before after q some =
    let one = kept p n w others.0 e.0 e.1 others.1 others.2 before in
    others_keep_children p others.0 t es one.after m others.3 one.is after q (event_keeps p w others.0 n one.after before one.is e.0 e.1 others.1 others.2 q some)

-- a child is among the pids
any_of : (q : ℕ) (f : ℕ → Bool) (xs : List ℕ) → has q xs ≡ true → f q ≡ true → list_any f xs ≡ true
any_of q f [] e g = let no : ⊥ = cc in absurd no
any_of q f (x ∷ xs) e g = by (λ h. any_of q f xs h g) (nat_eq q x) refl e
  where
    by : (has q xs ≡ true → list_any f xs ≡ true) → (b : Bool) → nat_eq q x ≡ b → (b || has q xs) ≡ true → (f x || list_any f xs) ≡ true
    by later true same h = ap (λ (k : ℕ). f k || list_any f xs) (sym (eqb-true q x same)) ∙ ap (λ (b : Bool). b || list_any f xs) g
    by later false apart h = or_right (f x) (list_any f xs) (later h)

some_of : (f : ℕ → Bool) (xs : List ℕ) → list_any f xs ≡ true → (q : ℕ) × (f q ≡ true)
some_of f [] e = let no : ⊥ = cc in absurd no
some_of f (x ∷ xs) e = by (λ h. some_of f xs h) (f x) refl e
  where
    by : (list_any f xs ≡ true → (q : ℕ) × (f q ≡ true)) → (b : Bool) → f x ≡ b → (b || list_any f xs) ≡ true → (q : ℕ) × (f q ≡ true)
    by later true is h = (x, is)
    by later false is h = later h

there_is : (p : ℕ) (o : Option Process) → IsSome (child_of p o) → IsSome o
there_is p None h = let no : ⊥ = cc in absurd no
there_is p (Some x) h = refl

still_child : (s : State) (p : ℕ) (n m : View) → view s p ≡ Some m → Keeps n m → has_child n ≡ true → has_child m ≡ true
still_child s p n m see keeps some =
    let q = some_of (λ q. is_some (n.children q)) n.pids some in
    let child : IsSome (m.children q.0) = keeps q.0 q.1 in
    let process : IsSome (get s.processes q.0) = there_is p (get s.processes q.0) (ap is_some (sym (children_are s p (live s p) m see q.0)) ∙ child) in
    any_of q.0 (λ q. is_some (m.children q)) m.pids (ap (has q.0) (view_pids s p (live s p) m see) ∙ listed s.processes q.0 ∙ process) child

-- ---- as a law

pub only_broken_writes_fail_late : OnlyBrokenWritesFailLate
only_broken_writes_fail_late p w t es v n m number waited answer next before others after refusal =
    let k = kept_others p n w t es others before in
    let same : rest m ≡ rest n = ap rest (same_Some m k.after (sym after ∙ k.is)) ∙ k.same in
    own_late v waited n answer next m
    (ap (λ (u : View). u.pid) same, ap (λ (u : View). u.regs) same, ap (λ (u : View). u.image) same, ap (λ (u : View). u.call) same, ap (λ (u : View). u.programs) same)
    (λ d. ap (λ (u : View). u.descriptors d) same)
    (still_child t.state p n m after (others_keep_children p w t es n m others before after))
    number refusal
