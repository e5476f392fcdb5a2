-- A slot's space is replaced by one that was made beside it.
use Rattle.kcall_core.proofs.Prelude.{[], ℕ, ◌%◌, ◌+◌, ◌∙◌, ◌∷◌, ◌≡◌, ◌≤◌, ap, arith, Belongs, copies, copies-cons, copies-nil, each_of, frame_at, free_in, get_or, Held, held_at, held_in, Image}
use Rattle.kcall_core.proofs.Prelude.{image_of, IsMemory, List, Made, Memories, Memory, None, Pool, refl, Registers, same_Some, saved, set, slot_frames, SlotChanges, Some, Space, Spared, spared}
use Rattle.kcall_core.proofs.Prelude.{Stands, subst, sym, Traded, with_image}
use Rattle.kcall_core.proofs.memory.Frames.{saved-same, slot-free, Stays, stays-if}
use Rattle.kcall_core.proofs.memory.Changes.{slot-changes, trapframe-apart, held-seen}
use Rattle.addr_space.specs.Space as space

module _ {old : Memories} {i : ℕ} {m : Memory} {pool1 : Pool} {ram1 : List (List ℕ)} {n : Space} (s : Stands old i m) (made : Made old.pool old.ram pool1 ram1 n) where
  stays : Stays old.ram ram1 (Some m)
  stays = subst (Stays old.ram ram1) s.is (stays-if old.pool pool1 old.ram ram1 [] (space.frames_of ram1 n)
      (get_or old.each.items i None) made.traded (s.sound.memories i) (λ f has. omega (arith, slot-free s.sound f i, has, copies-nil f)))

  -- the old space has as many places for a frame as before
  same-own : (f : ℕ) → copies f (space.frames_of ram1 m.space) ≡ copies f (space.frames_of old.ram m.space)
  same-own f = omega (arith, ap (copies f) stays.frames, copies-cons f m.trapframe (space.frames_of old.ram m.space), copies-cons f m.trapframe (space.frames_of ram1 m.space))

  -- what is free or the slot's is so once
  once : (f : ℕ) → copies f (free_in old.pool old.ram) + copies f (m.trapframe ∷ space.frames_of old.ram m.space) ≤ 1
  once f = omega (arith, slot-free s.sound f i, ap (λ o. copies f (slot_frames old.ram o)) s.is)

  pub old-belongs : Belongs pool1 ram1 m.space
  old-belongs = record {
    good = made.traded.good;
    whole = (stays.memory m refl).space;
    apart = λ f. omega (arith, once f, same-own f, copies-cons f m.trapframe (space.frames_of old.ram m.space), made.traded.frames f, copies-nil f);
  }

  module _ {pool2 : Pool} {ram2 : List (List ℕ)} (dropped : Traded pool1 ram1 pool2 ram2 (space.frames_of ram1 m.space) []) where
    new-stays : Spared ram1 ram2 n
    new-stays = spared pool1 pool2 ram1 ram2 (space.frames_of ram1 m.space) [] n dropped (record {
      whole = made.whole;
      apart = λ f has. omega (arith, has, once f, same-own f, copies-cons f m.trapframe (space.frames_of old.ram m.space), made.traded.frames f, copies-nil f);
    })

    all-traded : Traded old.pool old.ram pool2 ram2 (m.trapframe ∷ space.frames_of old.ram m.space) (m.trapframe ∷ space.frames_of ram2 n)
    all-traded = record {
      good = dropped.good;
      count = dropped.count ∙ made.traded.count;
      frames = λ f. omega (
        arith,
        made.traded.frames f,
        dropped.frames f,
        same-own f,
        ap (copies f) new-stays.frames,
        copies-nil f,
        copies-cons f m.trapframe (space.frames_of old.ram m.space),
        copies-cons f m.trapframe (space.frames_of ram2 n),
      );
      others = λ f free own.
          let first : frame_at ram1 f ≡ frame_at old.ram f = made.traded.others f free (copies-nil f) in
          let none : copies f (space.frames_of old.ram m.space) ≡ 0 = omega (arith, own, copies-cons f m.trapframe (space.frames_of old.ram m.space)) in
          dropped.others f (omega (arith, made.traded.frames f, free, copies-nil f)) (same-own f ∙ none) ∙ first;
    }

    same-registers : saved ram2 m.trapframe ≡ saved old.ram m.trapframe
    same-registers =
        let apart = trapframe-apart s in
        let first : frame_at ram1 m.trapframe ≡ frame_at old.ram m.trapframe = made.traded.others m.trapframe apart.0 (copies-nil m.trapframe) in
        saved-same old.ram ram2 m.trapframe (dropped.others m.trapframe (omega (arith, made.traded.frames m.trapframe, apart.0, copies-nil m.trapframe)) (same-own m.trapframe ∙ apart.1) ∙ first)

    whole : IsMemory ram2 (record { space = n; trapframe = m.trapframe })
    whole = record { space = new-stays.whole; aligned = ap (λ (r : Registers). r.pc % 4) same-registers ∙ (s.sound.memories i m s.is).aligned }

    pub new-image : (image : Image) → image_of ram1 n ≡ image → image_of ram2 n ≡ image
    new-image image is = new-stays.image ∙ is

    pub space-replaced : (new : Memories) (image : Image) → image_of ram1 n ≡ image → new.pool ≡ pool2 → new.ram ≡ ram2
        → new.each.items ≡ set old.each.items i (Some (record { space = n; trapframe = m.trapframe })) → new.pipes.items ≡ old.pipes.items
        → SlotChanges old new i (Some (with_image image (held_at (each_of old) i)))
    space-replaced new image is same-pool same-ram each pipes =
        let after : Memory = record { space = n; trapframe = m.trapframe } in
        let traded : Traded old.pool old.ram new.pool new.ram (slot_frames old.ram (get_or old.each.items i None)) (slot_frames new.ram (Some after)) =
        subst (λ p. Traded old.pool old.ram p new.ram (slot_frames old.ram (get_or old.each.items i None)) (slot_frames new.ram (Some after))) (sym same-pool)
        (subst (λ r. Traded old.pool old.ram pool2 r (slot_frames old.ram (get_or old.each.items i None)) (slot_frames r (Some after))) (sym same-ram)
        (subst (λ o. Traded old.pool old.ram pool2 ram2 (slot_frames old.ram o) (slot_frames ram2 (Some after))) (sym s.is) all-traded)) in
        let memory : IsMemory new.ram after = subst (λ r. IsMemory r after) (sym same-ram) whole in
        let changes = slot-changes old new i (Some after) s.sound s.inside traded (λ x e. subst (IsMemory new.ram) (same_Some after x e) memory) each pipes in
        let shown : image_of new.ram n ≡ image = ap (λ r. image_of r n) same-ram ∙ new-image image is in
        let registers : saved new.ram m.trapframe ≡ saved old.ram m.trapframe = ap (λ r. saved r m.trapframe) same-ram ∙ same-registers in
        let seen : held_in new.ram (Some after) ≡ Some (with_image image
        (record { image = image_of old.ram m.space; saved = saved old.ram m.trapframe })) = λ k. Some (record { image = shown k; saved = registers k }) in
        subst (λ h. SlotChanges old new i h) (seen ∙ ap (λ (h : Held). Some (with_image image h)) (sym (held-seen s))) changes
