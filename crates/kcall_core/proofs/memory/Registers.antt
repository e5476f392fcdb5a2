-- The trapframe of a slot is written.
use Rattle.kcall_core.proofs.Prelude.{ℕ, ◌%◌, ◌∙◌, ◌∷◌, ◌≡◌, ap, arith, at, at-same, copies, copies-cons, each_of, Fits, fits-same, free_in, free_in-written, get_or, Good-written, Hart, held_at}
use Rattle.kcall_core.proofs.Prelude.{held_in, image_of, IsMemory, List, Memories, Memory, None, OthersStay, Registers, RunsIn, same_Some, saved, slot_frames, SlotChanges, Some, Stands, subst, sym}
use Rattle.kcall_core.proofs.Prelude.{Traded, with_saved, word_at}
use Rattle.sv39_core.proofs.Owned.{Kept, kept-owned, kept-image, kept-pages}
use Rattle.addr_space.proofs.Copies.{space-kept, same-price}
use Rattle.kcall_core.proofs.memory.Lists.{set-read}
use Rattle.kcall_core.proofs.memory.Changes.{trapframe-apart, held-seen, slot-changes}
use Rattle.addr_space.specs.Space as space

-- a trapframe that a pc which is a multiple of 4 was saved in
pub saved-aligned : (ram : List (List ℕ)) (f : ℕ) → word_at ram f 0 % 4 ≡ 0 → (saved ram f).pc % 4 ≡ 0
unfolding saved
saved-aligned ram f e = e

pub aligned-saved : (ram : List (List ℕ)) (f : ℕ) → (saved ram f).pc % 4 ≡ 0 → word_at ram f 0 % 4 ≡ 0
unfolding saved
aligned-saved ram f e = e

module _ {old : Memories} (new : Memories) {i : ℕ} {m : Memory} (s : Stands old i m) (stay : OthersStay old.ram new.ram m.trapframe)
    (pool : new.pool ≡ old.pool) (each : new.each.items ≡ old.each.items) where
  kept : Kept old.ram new.ram m.space.root
  kept = record { count = stay.count; bytes = λ f has. stay.others f (λ e. absurd (omega (arith, has, ap (λ x. copies x (space.frames_of old.ram m.space)) e, (trapframe-apart s).1))) }

  own : space.frames_of new.ram m.space ≡ space.frames_of old.ram m.space
  own = kept-owned old.ram new.ram m.space.root (s.sound.memories i m s.is).space.tree kept

  image : image_of new.ram m.space ≡ image_of old.ram m.space
  image = ap (λ p. record { pages = p; size = m.space.size }) (same-price old.ram new.ram m.space (kept-image old.ram new.ram m.space.root (s.sound.memories i m s.is).space.tree kept))

  free : free_in old.pool new.ram ≡ free_in old.pool old.ram
  free = free_in-written old.pool old.ram new.ram m.trapframe s.sound.good stay (trapframe-apart s).0

  written : Traded old.pool old.ram old.pool new.ram (m.trapframe ∷ space.frames_of old.ram m.space) (m.trapframe ∷ space.frames_of new.ram m.space)
  written = record {
    good = Good-written old.pool old.ram new.ram m.trapframe s.sound.good stay (trapframe-apart s).0;
    count = stay.count;
    frames = λ f. omega (arith, ap (copies f) free, ap (copies f) own, copies-cons f m.trapframe (space.frames_of old.ram m.space), copies-cons f m.trapframe (space.frames_of new.ram m.space));
    others = λ f _ none. stay.others f (λ e. absurd (omega (arith, none, copies-cons f m.trapframe (space.frames_of old.ram m.space), ap (at f) e, at-same f)));
  }

  pub saved-changes : (regs : Registers) → saved new.ram m.trapframe ≡ regs → word_at new.ram m.trapframe 0 % 4 ≡ 0
      → new.pipes.items ≡ old.pipes.items → SlotChanges old new i (Some (with_saved regs (held_at (each_of old) i)))
  saved-changes regs is aligned pipes =
      let whole : IsMemory new.ram m = record { space = space-kept old.ram new.ram m.space (s.sound.memories i m s.is).space kept; aligned = saved-aligned new.ram m.trapframe aligned } in
      let traded : Traded old.pool old.ram new.pool new.ram (slot_frames old.ram (get_or old.each.items i None)) (slot_frames new.ram (Some m)) =
      subst (λ p. Traded old.pool old.ram p new.ram (slot_frames old.ram (get_or old.each.items i None)) (slot_frames new.ram (Some m))) (sym pool)
      (subst (λ o. Traded old.pool old.ram old.pool new.ram (slot_frames old.ram o) (slot_frames new.ram (Some m))) (sym s.is) written) in
      let changes = slot-changes old new i (Some m) s.sound s.inside traded (λ n e. subst (IsMemory new.ram) (same_Some m n e) whole)
      (each ∙ sym (set-read old.each.items i (Some m) None s.inside s.is)) pipes in
      let seen : held_in new.ram (Some m) ≡ Some (with_saved regs (record { image = image_of old.ram m.space; saved = saved old.ram m.trapframe })) =
      λ k. Some (record { image = image k; saved = is k }) in
      subst (λ h. SlotChanges old new i h) (seen ∙ ap (λ h. Some (with_saved regs h)) (sym (held-seen s))) changes

  -- the hart that runs there goes on
  pub saved-runs : (hart : Hart) → RunsIn old i hart → RunsIn new i hart
  saved-runs hart r =
      let same : m ≡ r.memory = same_Some m r.memory (sym s.is ∙ r.is) in
      let entries = kept-pages old.ram new.ram m.space.root (s.sound.memories i m s.is).space.tree kept in
      record {
        memory = m;
        is = ap (λ l. get_or l i None) each ∙ s.is;
        root = r.root ∙ ap (λ (x : Memory). Some x.space.root) (sym same);
        fits = fits-same old.ram new.ram m.space.root hart.cache entries (subst (λ (x : Memory). Fits old.ram x.space.root hart.cache) (sym same) r.fits);
      }
