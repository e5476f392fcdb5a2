use Rattle.kcall_core.proofs.Prelude.{each_of, held_at, inr, refl, Registers, SlotChanges, Some, subst, with_saved}
use Rattle.kcall_core.proofs.table.Stops.{suspended-sound, suspended-state}
use Rattle.kcall_core.proofs.kernel.Kernel.park.Goals as goal

pub returns-clause-sound : goal.returns-clause-sound
returns-clause-sound c =
    let hart = c.args.hart.now in
    let slot = c.running_slot-slot.result in
    let is = c.running_slot-slot.ensures.is in
    let runs = c.save.ensures.runs hart (c.requires.sound.current slot is).runs in
    suspended-sound c.args.self.now _ hart hart slot _ c.requires.sound is c.save.ensures.saved refl refl (inr (slot, runs))

pub returns-clause-state : goal.returns-clause-state
returns-clause-state c =
    let hart = c.args.hart.now in
    let slot = c.running_slot-slot.result in
    let held = held_at (each_of c.args.self.now.memories) slot in
    let P = λ (regs : Registers). SlotChanges c.args.self.now.memories c.save.new.self slot (Some (with_saved regs held)) in
    suspended-state c.args.self.now _ hart hart slot c.requires.sound c.running_slot-slot.ensures.is (subst P c.regs.ensures c.save.ensures.saved) refl refl
    (record { files = refl; console = refl; programs = refl; clock = refl })
