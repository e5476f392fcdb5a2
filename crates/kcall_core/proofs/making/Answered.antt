-- A call of the process that runs is answered: its registers become others, and perhaps its image.
use Rattle.kcall_core.proofs.Prelude.{◌∙◌, ◌≡◌, ap, arith, descriptors_at, each_of, free_of, get_or, Hart, held_at, Image, IsRepriced, IsRunning, IsSome, IsSound, Kernel, live_now, live_of, None}
use Rattle.kcall_core.proofs.Prelude.{or_nothing, pid_now, place_now, Registers, RunsIn, Same, set_live, slot_now, SlotChanges, Some, state_of, subst, sym, with_image}
use Rattle.kcall_core.proofs.table.States.{running, Goes, goes-sound, goes-state, runs-same, changed-here, changed-has, changed-goes}
use Rattle.kcall_core.proofs.table.Stops.{Rest, cost-held}

-- the memories are the same
same-goes : (k k' : Kernel) → Same k.memories k'.memories → k'.table ≡ k.table → k'.current ≡ k.current → Goes k k'
same-goes k k' same table current = record { table = table; current = current; each = λ j ne. ap (λ l. get_or l j None) same.each }

pub answered-same : (k k' : Kernel) (h h' : Hart) (regs : Registers) → IsSound k h → IsRunning k → Same k.memories k'.memories → k'.table ≡ k.table
    → k'.current ≡ k.current → Rest k k' → h' ≡ record h { regs = regs }
    → IsSound k' h' × (state_of k' h' ≡ set_live (pid_now k) (record (live_now k h) { regs = regs }) (state_of k h))
unfolding state_of
answered-same k k' h h' regs sound runs same table current rest e =
    let r = running k h sound runs in
    let goes = same-goes k k' same table current in
    let has = subst (λ l. IsSome (get_or l (slot_now k) None)) (sym same.each) (sound.lives (slot_now k) r.is.process r.is.is r.is.live) in
    let state = goes-state k k' h h' sound runs (record { goes = goes; files = rest.files; pipes = same.pipes; console = rest.console; programs = rest.programs; clock = rest.clock }) in (
      goes-sound k k' h h' sound runs goes same.sound has (runs-same regs e (same.runs (slot_now k) h r.is.runs)),
      state ∙ (λ t. record (set_live (pid_now k) (live_of (place_now k) (descriptors_at k.table (slot_now k)) (held_at (same.each t) (slot_now k)) (e t).regs) (state_of k h)) { free = same.free t }),
    )

-- the image in the slot that runs is another, and so may be what the hart keeps
pub answered-anew : (k k' : Kernel) (h h' : Hart) (regs : Registers) (image : Image) → IsSound k h → IsRunning k
    → SlotChanges k.memories k'.memories (slot_now k) (Some (with_image image (held_at (each_of k.memories) (slot_now k)))) → RunsIn k'.memories (slot_now k) h'
    → k'.table ≡ k.table → k'.current ≡ k.current → Rest k k' → h'.regs ≡ regs
    → IsSound k' h' × IsRepriced (state_of k h) (live_now k h).image image (set_live (pid_now k) (record (live_now k h) { image = image; regs = regs }) (state_of k h)) (state_of k' h')
unfolding state_of
answered-anew k k' h h' regs image sound runs changes runs' table current rest e =
    let r = running k h sound runs in
    let held = held_at (each_of k.memories) (slot_now k) in
    let goes = changed-goes k' sound runs table current changes in
    let here : held_at (each_of k'.memories) (slot_now k) ≡ with_image image held = ap or_nothing (changed-here k' sound runs table current changes) in
    let state = goes-state k k' h h' sound runs (record { goes = goes; files = rest.files; pipes = changes.pipes; console = rest.console; programs = rest.programs; clock = rest.clock }) in (
      goes-sound k k' h h' sound runs goes changes.sound (changed-has k' sound runs table current changes) runs',
      record {
        state = state ∙ (λ t. record (set_live (pid_now k) (live_of (place_now k) (descriptors_at k.table (slot_now k)) (here t) (e t)) (state_of k h)) { free = free_of k'.memories });
        free = omega (arith, changes.free, cost-held (get_or (each_of k.memories) (slot_now k) None) (sound.lives (slot_now k) r.is.process r.is.is r.is.live));
      },
    )
