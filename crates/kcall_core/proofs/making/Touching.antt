-- Pages of the process that runs come where they are touched: what the kernel is then, and that what it makes from there on is what it makes from before.
use Rattle.kcall_core.proofs.Prelude.{ℕ, ◌+◌, ◌-◌, ◌<◌, ◌∙◌, ◌≡◌, ◌≤◌, ap, arith, Bool, brought, brought-none, each_of, false, free_of, gathered, get, Hart, HasImage, held_at, Image, inl, inr}
use Rattle.kcall_core.proofs.Prelude.{is_absent, is_some, IsReady, IsRunning, IsTouched, IsUnready, IsWhole, KeepsBuffer, Kernel, List, Live, live_now, live_part, Memories, None, open_file_at}
use Rattle.kcall_core.proofs.Prelude.{OPEN_FILES, pages_at, pid_now, place_now, price, ready-there, refl, RunsIn, slot_now, SlotChanges, Some, state_of, subst, sym, there-ready, touch, touch-dear}
use Rattle.kcall_core.proofs.Prelude.{touch-view, true, view_alone, view_now, view_of, with_image, writable, writable_now}
use Rattle.kcall_core.proofs.table.States.{running}
use Rattle.kcall_core.proofs.table.Stops.{now-slot}
use Rattle.kcall_core.proofs.turns.Turned.{live-is}
use Rattle.kcall_core.proofs.turns.WhoRuns.{place-is}
use Rattle.kcall_core.proofs.making.Imaged.{image-changed, image-same}
use Rattle.kcall_core.proofs.making.Instructions.{table-again}
use Rattle.kcall_core.proofs.making.Buffers.{touched-keeps}
use Rattle.kcall_core.proofs.making.AloneMakes.{OnlyItself, only-pid, only-whole, mid-makes}

module _ {k : Kernel} {h : Hart} (whole : IsWhole k h) (runs : IsRunning k) where
  -- only its image is another, and it is paid from the free frames
  image-itself : {image : Image} {k' : Kernel} → KeepsBuffer (live_now k h).call image → HasImage k h image k' h → OnlyItself k h k' h
  image-itself {image} {k'} keeps has =
      let i = running k h whole.sound runs in
      let place = place-is k h whole.sound runs in
      record {
        regs = (live_now k h).regs;
        image = image;
        call = (live_now k h).call;
        free = (state_of k' h).free;
        sound = has.sound;
        table = ap (λ (y : Kernel). y.table) has.kernel ∙ table-again k.table (slot_now k) (place_now k) (omega (arith, whole.sound.table.places, i.inside)) place;
        current = ap (λ (y : Kernel). y.current) has.kernel;
        files = ap (λ (y : Kernel). y.files) has.kernel;
        frames = has.frames;
        state = has.state.state;
        paid = omega (arith, has.state.free);
        buffer = keeps;
      }

  -- these pages came
  pub image-touched : (pages : List ℕ) {k' : Kernel} → HasImage k h (brought pages (live_now k h).image) k' h → IsTouched pages k h k' h
  unfolding touch view_of
  image-touched pages {k'} has =
      let s = state_of k h in
      let l = live_now k h in
      let its = whole.buffers (pid_now k) l (ap live_part (live-is k h whole.sound runs)) in
      let x = image-itself (touched-keeps pages l.image l.call its) has in
      let fits : price (brought pages l.image) ≤ price l.image + s.free = omega (arith, has.state.free) in
      let free : s.free + price l.image - price (brought pages l.image) ≡ (state_of k' h).free = omega (arith, has.state.free) in
      let seen : view_now k' h ≡ record (view_now k h) { image = brought pages l.image; free = (state_of k' h).free } =
      (λ i. view_of (has.state.state i) (only-pid whole runs x i) (has.live i))
      ∙ sym (view_alone s (pid_now k) l (live-is k h whole.sound runs) l.regs (brought pages l.image) l.call l.killed s.console (state_of k' h).free) in
      record {
        whole = only-whole whole runs x;
        running = ap is_some x.current ∙ runs;
        kernel = has.kernel;
        live = has.live;
        view = touch-view (view_now k h) pages (state_of k' h).free fits free ∙ ap Some (sym seen);
        makes = λ o k'' h'' made. mid-makes k h k' h k'' h'' o whole runs x made;
      }

  -- ---- a buffer

  abbrev image : Image
  image = (live_now k h).image

  -- user code may write it as it stands
  pub ready-now : (a n spare : ℕ) → writable_now image a n ≡ true → spare ≤ (state_of k h).free → IsReady a n spare k h k h
  ready-now a n spare there free =
      let ready = there-ready image a n there in
      record {
        touched = image-touched (pages_at a n) (subst (λ i. HasImage k h i k h) (sym (brought-none (pages_at a n) image ready.1)) (image-same k h whole.sound runs));
        may = ready.0;
        there = there;
        free = free;
      }

  -- its absent pages came
  pub ready-brought : (slot a n spare : ℕ) (m : Memories) → k.current ≡ Some slot → writable image a n ≡ true
      → (let held = held_at (each_of k.memories) slot in SlotChanges k.memories m slot (Some (with_image (brought (pages_at a n) held.image) held)))
      → ((hart : Hart) → RunsIn k.memories slot hart → RunsIn m slot hart)
      → price (brought (pages_at a n) image) + spare ≤ price image + (state_of k h).free
      → writable_now (brought (pages_at a n) image) a n ≡ true
      → IsReady a n spare k h (record k { memories = m }) h
  ready-brought slot a n spare m is may changes keeps fits there =
      let here : slot ≡ slot_now k = now-slot slot whole.sound is in
      let r = running k h whole.sound runs in
      let has = image-changed k h whole.sound runs m h (brought (pages_at a n) image)
      (subst (λ (i : ℕ). SlotChanges k.memories m i (Some (with_image (brought (pages_at a n) (held_at (each_of k.memories) i).image) (held_at (each_of k.memories) i)))) here changes)
      (subst (λ i. RunsIn m i h) here (keeps h (subst (λ i. RunsIn k.memories i h) (sym here) r.is.runs))) refl in
      let touched = image-touched (pages_at a n) has in
      record {
        touched = touched;
        may = may;
        there = ap (λ (l : Live). writable_now l.image a n) touched.live ∙ there;
        free = omega (arith, fits, has.state.free);
      }

-- the open files are the same
pub files-stay : {pages : List ℕ} {k k' : Kernel} {h : Hart} → IsTouched pages k h k' h → (f : ℕ) → get (state_of k' h).files f ≡ get (state_of k h).files f
unfolding state_of
files-stay {pages} {k} {k'} {h} x f = ap (λ (y : Kernel). get (gathered (open_file_at y.files) OPEN_FILES) f) x.kernel

-- ---- the same by the slot of the process that runs

module _ {k : Kernel} {h : Hart} {slot : ℕ} (whole : IsWhole k h) (is : k.current ≡ Some slot) (a n spare : ℕ) where
  at-slot : slot ≡ slot_now k
  at-slot = now-slot slot whole.sound is

  now-runs : IsRunning k
  now-runs = ap is_some is

  pub ready-at : writable_now (held_at (each_of k.memories) slot).image a n ≡ true → spare ≤ free_of k.memories → IsReady a n spare k h k h
  unfolding state_of
  ready-at there free = ready-now whole now-runs a n spare ((λ i. writable_now (held_at (each_of k.memories) (sym at-slot i)).image a n) ∙ there) free

  pub unready-free : writable_now (held_at (each_of k.memories) slot).image a n ≡ true → free_of k.memories < spare → IsUnready a n spare k h
  unfolding state_of
  unready-free there short =
      let ready = there-ready (live_now k h).image a n ((λ i. writable_now (held_at (each_of k.memories) (sym at-slot i)).image a n) ∙ there) in
      inr (omega (arith, short, ap price (brought-none (pages_at a n) (live_now k h).image ready.1)))

  pub unready-may : writable (held_at (each_of k.memories) slot).image a n ≡ false → IsUnready a n spare k h
  unready-may bad = inl ((λ i. writable (held_at (each_of k.memories) (sym at-slot i)).image a n) ∙ bad)

  pub unready-dear : let image = (held_at (each_of k.memories) slot).image in price image + free_of k.memories < price (brought (pages_at a n) image) + spare → IsUnready a n spare k h
  unfolding state_of
  unready-dear dear = inr (subst (λ (i : ℕ). price (held_at (each_of k.memories) i).image + free_of k.memories < price
      (brought (pages_at a n) (held_at (each_of k.memories) i).image) + spare) at-slot dear)

  pub ready-came : {m : Memories} → writable (held_at (each_of k.memories) slot).image a n ≡ true
      → (let held = held_at (each_of k.memories) slot in SlotChanges k.memories m slot (Some (with_image (brought (pages_at a n) held.image) held)))
      → ((hart : Hart) → RunsIn k.memories slot hart → RunsIn m slot hart)
      → (let image = (held_at (each_of k.memories) slot).image in price (brought (pages_at a n) image) + spare ≤ price image + free_of k.memories)
      → IsReady a n spare k h (record k { memories = m }) h
  unfolding state_of
  ready-came {m} may changes keeps fits =
      let image = (live_now k h).image in
      let here : writable image a n ≡ true = (λ i. writable (held_at (each_of k.memories) (sym at-slot i)).image a n) ∙ may in
      ready-brought whole now-runs slot a n spare m is here changes keeps
      (subst (λ (i : ℕ). price (brought (pages_at a n) (held_at (each_of k.memories) i).image) + spare ≤ price (held_at (each_of k.memories) i).image + free_of k.memories) at-slot fits)
      (ready-there image a n here)

-- ---- the page of an address

module _ {k : Kernel} {h : Hart} {slot : ℕ} (whole : IsWhole k h) (is : k.current ≡ Some slot) where
  pub page-absent : (v : ℕ) (b : Bool) → is_absent (held_at (each_of k.memories) slot).image v ≡ b → is_absent (live_now k h).image v ≡ b
  page-absent v b e = (λ i. is_absent (held_at (each_of k.memories) (sym (now-slot slot whole.sound is) i)).image v) ∙ e

  pub page-dear : (address : ℕ) → (let image = (held_at (each_of k.memories) slot).image in
      price image + free_of k.memories < price (brought (pages_at address 1) image) + 0) → touch (pages_at address 1) (view_now k h) ≡ None
  unfolding view_of state_of
  page-dear address dear =
      touch-dear (view_now k h) (pages_at address 1)
      (subst (λ (i : ℕ). price (held_at (each_of k.memories) i).image + free_of k.memories < price
      (brought (pages_at address 1) (held_at (each_of k.memories) i).image)) (now-slot slot whole.sound is) (omega (arith, dear)))

  pub page-came : (address : ℕ) {m : Memories} → (let held = held_at (each_of k.memories) slot in SlotChanges k.memories m slot (Some (with_image (brought (pages_at address 1) held.image) held)))
      → ((hart : Hart) → RunsIn k.memories slot hart → RunsIn m slot hart) → IsTouched (pages_at address 1) k h (record k { memories = m }) h
  page-came address {m} changes keeps =
      let here : slot ≡ slot_now k = now-slot slot whole.sound is in
      let runs : IsRunning k = ap is_some is in
      let r = running k h whole.sound runs in
      image-touched whole runs (pages_at address 1) (image-changed k h whole.sound runs m h (brought (pages_at address 1) (live_now k h).image)
      (subst (λ (i : ℕ). SlotChanges k.memories m i (Some (with_image (brought (pages_at address 1) (held_at (each_of k.memories) i).image) (held_at (each_of k.memories) i)))) here changes)
      (subst (λ i. RunsIn m i h) here (keeps h (subst (λ i. RunsIn k.memories i h) (sym here) r.is.runs))) refl)
