-- The process that runs has another image, and then its call is done.
use Rattle.kcall_core.proofs.Prelude.{ℕ, ℤ, ◌+◌, ◌<◌, ◌∙◌, ◌≡◌, ◌≤◌, ap, arith, at-greater, at-smaller, at_size, Call, changed_at, data_rights, done, each_of, Err, false, free_of, grown as grown_with}
use Rattle.kcall_core.proofs.Prelude.{grown_lazily, Hart, HasImage, held_at, IfErr, IfOk, Image, in_call, is_ok, IsRunning, IsSound, IsTooDear, IsWhole, Kernel, length, Live, live_now, Makes}
use Rattle.kcall_core.proofs.Prelude.{Memories, None, Ok, or_nothing, Own, own_state, pid_now, price, refl, Result, Rights, RunsIn, Same, set_live, slot_now, SlotChanges, Some, State, state_of, subst}
use Rattle.kcall_core.proofs.Prelude.{sym, true, true≢false, view_now, view_of, with_answer, with_image}
use Rattle.kernel_spec.specs.rows.Buffers.{grown, shrunk}
use Rattle.kcall_core.proofs.table.States.{running, changed-here}
use Rattle.kcall_core.proofs.table.Stops.{now-slot}
use Rattle.kcall_core.proofs.making.Answered.{answered-same, answered-anew}
use Rattle.kcall_core.proofs.making.AloneMakes.{IsAnswered, alone-twice, done-makes}

-- ---- by the answer of a growth

pub where-ok : {A E P : Type 0} (r : Result A E) → IfOk r (λ _. P) → is_ok r ≡ true → P
where-ok (Ok x) holds is = holds
where-ok (Err x) holds is = absurd (true≢false (sym is))

pub where-err : {A E P : Type 0} (r : Result A E) → IfErr r (λ _. P) → is_ok r ≡ false → P
where-err (Ok x) holds is = absurd (true≢false is)
where-err (Err x) holds is = holds

-- ---- its image

module _ (k : Kernel) (h : Hart) (sound : IsSound k h) (runs : IsRunning k) where
  -- the memory in its slot has another image
  pub image-changed : (m : Memories) (h' : Hart) (image : Image)
      → SlotChanges k.memories m (slot_now k) (Some (with_image image (held_at (each_of k.memories) (slot_now k)))) → RunsIn m (slot_now k) h'
      → h'.regs ≡ h.regs
      → HasImage k h image (record k { memories = m }) h'
  image-changed m h' image changes on regs =
      let k' : Kernel = record k { memories = m } in
      let anew = answered-anew k k' h h' h.regs image sound runs changes on refl refl (record { files = refl; console = refl; programs = refl; clock = refl }) regs in
      let here : held_at (each_of m) (slot_now k) ≡ with_image image (held_at (each_of k.memories) (slot_now k)) = ap or_nothing (changed-here k' sound runs refl refl changes) in
      record {
        sound = anew.0;
        kernel = refl;
        live = λ i. record (live_now k h) { image = (here i).image; regs = regs i };
        state = anew.1;
        frames = changes.frames;
      }

  -- nothing of the memories is another
  pub image-kept : (m : Memories) → Same k.memories m → HasImage k h (live_now k h).image (record k { memories = m }) h
  image-kept m same =
      let k' : Kernel = record k { memories = m } in
      let kept = answered-same k k' h h h.regs sound runs same refl refl (record { files = refl; console = refl; programs = refl; clock = refl }) refl in
      let u : State = set_live (pid_now k) (live_now k h) (state_of k h) in
      let free : (state_of k' h).free ≡ (state_of k h).free = ap (λ (t : State). t.free) kept.1 in
      record {
        sound = kept.0;
        kernel = refl;
        live = λ i. record (live_now k h) { image = (held_at (same.each i) (slot_now k)).image };
        state = record {
          state = kept.1 ∙ ap (λ n. record u { free = n }) (sym free);
          free = ap (λ n. n + price (live_now k h).image) free;
        };
        frames = same.frames;
      }

  -- nothing is another
  pub image-same : HasImage k h (live_now k h).image k h
  image-same = image-kept k.memories (record { sound = sound.memories; each = refl; pipes = refl; free = refl; frames = refl; runs = λ slot hart r. r })

  -- the image in slot i, in which it runs, is smaller
  pub image-shrunk : (i : ℕ) (m : Memories) (h' : Hart) (size : ℕ) → k.current ≡ Some i → let held = held_at (each_of k.memories) i in
      size < held.image.size → SlotChanges k.memories m i (Some (with_image (shrunk held.image size) held)) → RunsIn m i h' → h'.regs ≡ h.regs
      → HasImage k h (at_size (live_now k h).image size) (record k { memories = m }) h'
  image-shrunk i m h' size is less changes on regs =
      let each = each_of k.memories in
      let slot : i ≡ slot_now k = now-slot i sound is in
      let smaller = at-smaller (live_now k h).image size (subst (λ n. size < (held_at each n).image.size) slot less) in
      image-changed m h' (at_size (live_now k h).image size)
      (subst (λ x. SlotChanges k.memories m (slot_now k) (Some (with_image x (held_at each (slot_now k))))) (sym smaller)
      (subst (λ n. SlotChanges k.memories m n (Some (with_image (shrunk (held_at each n).image size) (held_at each n)))) slot changes))
      (subst (λ n. RunsIn m n h') slot on) regs

  -- or greater
  pub image-grown : (i : ℕ) (m : Memories) (size : ℕ) (rights : Rights) → k.current ≡ Some i → rights ≡ data_rights → let held = held_at (each_of k.memories) i in held.image.size ≤ size
      → SlotChanges k.memories m i (Some (with_image (grown_with held.image size rights) held)) → ((hart : Hart) → RunsIn k.memories i hart → RunsIn m i hart)
      → HasImage k h (at_size (live_now k h).image size) (record k { memories = m }) h
  image-grown i m size rights is same-rights more changes on =
      let each = each_of k.memories in
      let slot : i ≡ slot_now k = now-slot i sound is in
      let greater = at-greater (live_now k h).image size (subst (λ n. (held_at each n).image.size ≤ size) slot more) in
      let r = running k h sound runs in
      image-changed m h (at_size (live_now k h).image size)
      (subst (λ x. SlotChanges k.memories m (slot_now k) (Some (with_image x (held_at each (slot_now k))))) (sym greater)
      (subst (λ n. SlotChanges k.memories m n (Some (with_image (grown (held_at each n).image size) (held_at each n)))) slot
      (subst (λ (p : Rights). SlotChanges k.memories m i (Some (with_image (grown_with (held_at each i).image size p) (held_at each i)))) same-rights changes)))
      (subst (λ n. RunsIn m n h) slot (on h (subst (λ n. RunsIn k.memories n h) (sym slot) r.is.runs))) refl

  -- or greater by its size alone
  pub image-lazily : (i : ℕ) (m : Memories) (size : ℕ) → k.current ≡ Some i → let held = held_at (each_of k.memories) i in
      SlotChanges k.memories m i (Some (with_image (grown_lazily held.image size) held)) → ((hart : Hart) → RunsIn k.memories i hart → RunsIn m i hart)
      → HasImage k h (grown_lazily (live_now k h).image size) (record k { memories = m }) h
  image-lazily i m size is changes on =
      let each = each_of k.memories in
      let slot : i ≡ slot_now k = now-slot i sound is in
      let r = running k h sound runs in
      image-changed m h (grown_lazily (live_now k h).image size)
      (subst (λ n. SlotChanges k.memories m n (Some (with_image (grown_lazily (held_at each n).image size) (held_at each n)))) slot changes)
      (subst (λ n. RunsIn m n h) slot (on h (subst (λ n. RunsIn k.memories n h) (sym slot) r.is.runs))) refl

  -- the greater one costs too much
  pub image-too-dear : (i : ℕ) (m : Memories) (size : ℕ) (rights : Rights) → k.current ≡ Some i → rights ≡ data_rights → let image = (held_at (each_of k.memories) i).image in image.size ≤ size
      → price image + free_of k.memories < price (grown_with image size rights) → Same k.memories m
      → let now = (live_now k h).image in (now.size ≤ size) × IsTooDear k now (grown now size) × HasImage k h now (record k { memories = m }) h
  image-too-dear i m size rights is same-rights more dear same =
      let each = each_of k.memories in
      let slot : i ≡ slot_now k = now-slot i sound is in (
        subst (λ n. (held_at each n).image.size ≤ size) slot more,
        subst (λ n. IsTooDear k (held_at each n).image (grown (held_at each n).image size)) slot
            (subst (λ (p : Rights). IsTooDear k (held_at each i).image (grown_with (held_at each i).image size p)) same-rights dear),
        image-kept m same,
      )

-- ---- its call

-- what `done` leaves: no call is in progress, and a0 has the answer
module _ (k : Kernel) (h : Hart) (whole : IsWhole k h) (runs : IsRunning k) {image : Image} {mid : Kernel} {hm : Hart}
    (has : HasImage k h image mid hm) (k' : Kernel) (h' : Hart) (value : ℤ) (sound : IsSound k' h')
    (kernel : k' ≡ record mid { table = changed_at (slot_now mid) (in_call None) mid.table })
    (state : state_of k' h' ≡ own_state (pid_now mid) (with_answer value (live_now mid hm)) (state_of mid hm)) where
  image-answered : IsAnswered k h k' h' value (live_now k h).regs image (state_of mid hm).free
  image-answered =
      let slot : slot_now mid ≡ slot_now k = ap slot_now has.kernel in
      let pid : pid_now mid ≡ pid_now k = ap pid_now has.kernel in
      let s = state_of k h in
      let free = (state_of mid hm).free in
      let next : Live = record (live_now k h) { image = image } in
      record {
        sound = sound;
        table = ap (λ (x : Kernel). x.table) kernel ∙ (λ i. changed_at (slot i) (in_call None) (has.kernel i).table);
        current = ap (λ (x : Kernel). x.current) kernel ∙ ap (λ (x : Kernel). x.current) has.kernel;
        files = ap (λ (x : Kernel). x.files) kernel ∙ ap (λ (x : Kernel). x.files) has.kernel;
        frames = ap (λ (x : Kernel). length x.memories.ram) kernel ∙ has.frames;
        state = state ∙ (λ i. own_state (pid i) (with_answer value (has.live i)) (has.state.state i)) ∙ alone-twice s (pid_now k) next (with_answer value next) s.console s.console free free;
        paid = omega (arith, has.state.free);
      }

  pub image-makes : (c : Call) (o : Own) → o ≡ done c value (record (view_now k h) { image = image; free = (state_of mid hm).free }) → Makes k h o k' h'
  unfolding view_of
  image-makes c o is = done-makes k h k' h' c value (live_now k h).regs image (state_of mid hm).free o whole runs image-answered is
