-- The row wait, as the code goes through it: the status is stored, and which way the row goes.
use Rattle.kcall_core.proofs.Prelude.{ℕ, ℤ, ◌&&◌, ◌||◌, ◌∙◌, ◌≡◌, ◌≢◌, ap, arith, Bool, Call, cast_unsigned, child_of, cond, each_of, eq-eqb, eqb_tells, false, get, Hart, has_status, HasChild}
use Rattle.kcall_core.proofs.Prelude.{HasImage, HasNoChild, HasNoneEnded, held_at, Image, inl, inr, is_some, IsReady, IsRunning, IsSound, IsUnready, Kernel, keys, le_bytes, least_zombie, List}
use Rattle.kcall_core.proofs.Prelude.{live_now, Memories, nat_eq, not, pages_at, pid_now, reaches_touching, reaped, refl, refused, RunsIn, slot_now, SlotChanges, Some, State, state_of, subst, sym}
use Rattle.kcall_core.proofs.Prelude.{told-ready, told_bytes, told_image, touch-dear, true, true≢false, unless, View, view_now, view_of, wait, wait_childless, wait_none, wait_ready, wait_same}
use Rattle.kcall_core.proofs.Prelude.{wait_unwritable, waits, with_image, writable, writable_now, write_image}
use Rattle.std.specs.Int.{w32}
use Rattle.kcall_core.proofs.table.States.{running}
use Rattle.kcall_core.proofs.table.Stops.{now-slot}
use Rattle.kcall_core.proofs.making.Imaged.{image-changed, image-same}
use Rattle.kcall_core.proofs.table.Zombies.{find-none, any-none, none-seen, none-ended, some-child}

-- ---- the status is stored

at-zero : (a b : Bool) (x y : Image) → a ≡ b → cond b x y ≡ cond a x y
at-zero a b x y e = ap (λ c. cond c x y) (sym e)

module _ (k : Kernel) (h : Hart) (a : ℕ) (status : ℤ) (sound : IsSound k h) (slot : ℕ) (is : k.current ≡ Some slot) where
  runs : IsRunning k
  runs = ap is_some is

  pub told-nothing : a ≡ 0 → HasImage k h (told_image a status (live_now k h).image) k h
  told-nothing e =
      let image = (live_now k h).image in
      subst (λ i. HasImage k h i k h) (at-zero (nat_eq a 0) true image (write_image image a (le_bytes 4 (cast_unsigned w32 status))) (eq-eqb a 0 e)) (image-same k h sound runs)

  pub told-status : a ≢ 0 → (m : Memories) (bytes : List ℕ) → bytes ≡ le_bytes 4 (cast_unsigned w32 status)
      → let held = held_at (each_of k.memories) slot in SlotChanges k.memories m slot (Some (with_image (write_image held.image a bytes) held))
      → ((hart : Hart) → RunsIn k.memories slot hart → RunsIn m slot hart) → HasImage k h (told_image a status (live_now k h).image) (record k { memories = m }) h
  told-status ne m bytes told changes keeps =
      let image = (live_now k h).image in
      let each = each_of k.memories in
      let here : slot ≡ slot_now k = now-slot slot sound is in
      let apart : nat_eq a 0 ≡ false = elim (eqb_tells a 0) [ inl e ↦ absurd (ne e.1) | inr e ↦ e.0 ] in
      let written = write_image image a (le_bytes 4 (cast_unsigned w32 status)) in
      subst (λ i. HasImage k h i (record k { memories = m }) h) (at-zero (nat_eq a 0) false image written apart)
      (image-changed k h sound runs m h written
      (subst (λ (n : ℕ). SlotChanges k.memories m n (Some (with_image (write_image (held_at each n).image a (le_bytes 4 (cast_unsigned w32 status))) (held_at each n)))) here
      (subst (λ (bs : List ℕ). SlotChanges k.memories m slot (Some (with_image (write_image (held_at each slot).image a bs) (held_at each slot)))) told changes))
      (subst (λ n. RunsIn m n h) here (keeps h (subst (λ n. RunsIn k.memories n h) (sym here) (running k h sound runs).is.runs))) refl)

-- ---- the row

both-not : (a b : Bool) → (not a && not b) ≡ not (a || b)
both-not true b = refl
both-not false b = refl

by-test : (v : View) (c : Call) → (nat_eq c.a0 0 || writable_now v.image c.a0 4) ≡ true → wait c v ≡ reaped c v (least_zombie v)
by-test v c e =
    let ready = told-ready v.image c.a0 (nat_eq c.a0 0) (both-not (nat_eq c.a0 0) (writable_now v.image c.a0 4) ∙ ap not e) in
    wait_same c v ready.1 ∙ ap (λ x. unless x c v (λ _. reaped c v (least_zombie v))) ready.0

module _ (k : Kernel) (h : Hart) (slot : ℕ) (sound : IsSound k h) (is : k.current ≡ Some slot) (c : Call) where
  pub tested : (nat_eq c.a0 0 || writable_now (held_at (each_of k.memories) slot).image c.a0 4) ≡ true → wait c (view_now k h) ≡ reaped c (view_now k h) (least_zombie (view_now k h))
  unfolding view_of
  tested e = by-test (view_now k h) c ((λ i. nat_eq c.a0 0 || writable_now (held_at (each_of k.memories) (sym (now-slot slot sound is) i)).image c.a0 4) ∙ e)

  -- there is room for the status
  pub room-told : (nat_eq c.a0 0 || writable_now (held_at (each_of k.memories) slot).image c.a0 4) ≡ true → (not (nat_eq c.a0 0) && not (writable_now (live_now k h).image c.a0 4)) ≡ false
  room-told e =
      both-not (nat_eq c.a0 0) (writable_now (live_now k h).image c.a0 4)
      ∙ ap not ((λ i. nat_eq c.a0 0 || writable_now (held_at (each_of k.memories) (sym (now-slot slot sound is) i)).image c.a0 4) ∙ e)

  module _ (fits : (nat_eq c.a0 0 || writable_now (held_at (each_of k.memories) slot).image c.a0 4) ≡ true) where
    abbrev p : ℕ
    p = pid_now k

    abbrev s : State
    s = state_of k h

    pub childless-row : HasNoChild k.table p → wait c (view_now k h) ≡ refused c (view_now k h)
    unfolding view_of
    childless-row none =
        tested fits
        ∙ ap (reaped c (view_now k h)) (find-none (λ r. has_status (child_of p (get s.processes r))) (keys s.processes) (λ r. ap has_status (none-seen k h p sound.table none r)))
        ∙ ap (λ b. cond b (waits c 0 (view_now k h)) (refused c (view_now k h)))
        (any-none (λ r. is_some (child_of p (get s.processes r))) (keys s.processes) (λ r. ap is_some (none-seen k h p sound.table none r)))

    pub waiting-row : HasChild k.table p → HasNoneEnded k.table p → wait c (view_now k h) ≡ waits c 0 (view_now k h)
    unfolding view_of
    waiting-row has none =
        tested fits
        ∙ ap (reaped c (view_now k h)) (find-none (λ r. has_status (child_of p (get s.processes r))) (keys s.processes) (none-ended k h p sound.table none))
        ∙ ap (λ b. cond b (waits c 0 (view_now k h)) (refused c (view_now k h))) (some-child k h p sound.table has)

-- ---- the tests before the status is told

-- it has a child, in the table and in its view
module _ (k : Kernel) (h : Hart) (sound : IsSound k h) (runs : IsRunning k) (c : Call) where
  pub no-child : HasNoChild k.table (pid_now k) → wait c (view_now k h) ≡ refused c (view_now k h)
  unfolding view_of
  no-child none = wait_childless c (view_now k h) (any-none (λ r. is_some (child_of (pid_now k) (get (state_of k h).processes r)))
      (keys (state_of k h).processes) (λ r. ap is_some (none-seen k h (pid_now k) sound.table none r)))

  -- the status can't be stored, or the absent pages there cost more than is free
  pub wait-unready : IsUnready c.a0 (told_bytes c) 0 k h → wait c (view_now k h) ≡ refused c (view_now k h)
  unfolding view_of reaches_touching
  wait-unready unready = elim unready [
    | inl bad ↦ wait_unwritable c (view_now k h) (at (nat_eq c.a0 0) bad)
    | inr dear ↦ wait_none c (view_now k h) (touch-dear (view_now k h) (pages_at c.a0 (told_bytes c)) (omega (arith, dear)))
  ]
    where
      at : (b : Bool) → writable (live_now k h).image c.a0 (cond b 0 4) ≡ false → (not b && not (writable (live_now k h).image c.a0 4)) ≡ true
      at true bad = absurd (true≢false bad)
      at false bad = ap not bad

  -- its buffer is there: what the row comes to then
  pub wait-ready : {k' : Kernel} → HasChild k.table (pid_now k) → IsReady c.a0 (told_bytes c) 0 k h k' h → wait c (view_now k h) ≡ wait c (view_now k' h)
  unfolding view_of
  wait-ready {k'} has ready = wait_ready c (view_now k h) (view_now k' h) (room (nat_eq c.a0 0) ready.may) (some-child k h (pid_now k) sound.table has) ready.touched.view
    where
      room : (b : Bool) → writable (live_now k h).image c.a0 (cond b 0 4) ≡ true → (not b && not (writable (live_now k h).image c.a0 4)) ≡ false
      room true fine = refl
      room false fine = ap not fine

-- room for the status, where its buffer is there
pub told-room : {k k' : Kernel} {h : Hart} (c : Call) (slot : ℕ) → k.current ≡ Some slot → IsReady c.a0 (told_bytes c) 0 k h k' h
    → (nat_eq c.a0 0 || writable_now (held_at (each_of k'.memories) slot).image c.a0 4) ≡ true
told-room {k} {k'} {h} c slot is ready =
    let same : k'.current ≡ Some slot = ap (λ (y : Kernel). y.current) ready.touched.kernel ∙ is in
    let at : slot ≡ slot_now k' = now-slot slot ready.touched.whole.sound same in
    by (nat_eq c.a0 0) ((λ i. writable_now (held_at (each_of k'.memories) (at i)).image c.a0 (told_bytes c)) ∙ ready.there)
  where
    by : (b : Bool) → writable_now (held_at (each_of k'.memories) slot).image c.a0 (cond b 0 4) ≡ true → (b || writable_now (held_at (each_of k'.memories) slot).image c.a0 4) ≡ true
    by true fine = refl
    by false fine = fine
