use Rattle.kcall_core.proofs.Prelude.{ap, IfSome, IsNearest, IsRunnable, Kernel, pid_at, same_Some, Slots, Some, subst, sym, World, ℕ, ◌∙◌, ◌≡◌}
use Rattle.proc_table.specs.Turns as slots
use Rattle.kcall_core.proofs.turns.Chosen.{noted, noted-sound, noted-state}
use Rattle.kcall_core.proofs.turns.NextTurn.{runs-in, with_turn, turned-whole, turned-world, turned-nearest}
use Rattle.kcall_core.proofs.kernel.Kernel.turn_on.Goals as goal

-- the process in the hart has the next turn
record Stays (k : Kernel) (table : Slots) (slot : ℕ) : Type 0 where
  near : slots.IsNearest k.table.places k.table.last (Some slot)
  is : noted k table ≡ with_turn k slot

stays : (k : Kernel) (table : Slots) (slot : ℕ) → ((n : ℕ) × (k.current ≡ Some n) × slots.IsNearest k.table.places k.table.last (Some n)) → k.current ≡ Some slot
    → table ≡ record k.table { last = slot } → Stays k table slot
stays k table slot (n, at, near) now e = record {
  near = subst (λ i. slots.IsNearest k.table.places k.table.last (Some i)) (same_Some n slot (sym at ∙ now)) near;
  is = λ i. record k { table = e i; current = now i };
}

pub returns-then-has_next_turn-clause-whole : goal.returns-then-has_next_turn-clause-whole
returns-then-has_next_turn-clause-whole c =
    let k = c.args.self.now in
    let h = c.args.hart.now in
    let slot = c.running_slot-slot.result in
    let table = c.take_turn.new.self in
    let s = stays k table slot (c.has_next_turn.ensures.yes c.if-has_next_turn.true) c.running_slot-slot.ensures.is c.take_turn.ensures in
    let r = runs-in k.table slot s.near.1 in
    turned-whole k (noted k table) h h slot r.0 c.requires.whole r.1 s.is (noted-state k h slot table c.take_turn.ensures)
    (noted-sound k h slot table c.requires.whole.sound s.near.0 c.take_turn.ensures)

pub returns-then-has_next_turn-clause-turn : goal.returns-then-has_next_turn-clause-turn
returns-then-has_next_turn-clause-turn c =
    let k = c.args.self.now in
    let h = c.args.hart.now in
    let slot = c.running_slot-slot.result in
    let table = c.take_turn.new.self in
    let s = stays k table slot (c.has_next_turn.ensures.yes c.if-has_next_turn.true) c.running_slot-slot.ensures.is c.take_turn.ensures in
    let r = runs-in k.table slot s.near.1 in
    let told : pid_at k.table slot ≡ Some c.pid.result = sym (ap (λ (t : Slots). pid_at t slot) c.take_turn.ensures) ∙ c.pid.ensures in
    turned-world k (noted k table) h h slot r.0 c.requires.whole r.1 s.is (noted-state k h slot table c.take_turn.ensures) c.pid.result told

pub returns-then-has_next_turn-clause-nearest : goal.returns-then-has_next_turn-clause-nearest
returns-then-has_next_turn-clause-nearest c =
    let k = c.args.self.now in
    let h = c.args.hart.now in
    let slot = c.running_slot-slot.result in
    let table = c.take_turn.new.self in
    let s = stays k table slot (c.has_next_turn.ensures.yes c.if-has_next_turn.true) c.running_slot-slot.ensures.is c.take_turn.ensures in
    let r = runs-in k.table slot s.near.1 in
    let told : pid_at k.table slot ≡ Some c.pid.result = sym (ap (λ (t : Slots). pid_at t slot) c.take_turn.ensures) ∙ c.pid.ensures in
    turned-nearest k (noted k table) h h slot r.0 c.requires.whole r.1 s.is (noted-state k h slot table c.take_turn.ensures) c.pid.result told s.near.2

pub returns-clause-nearest : goal.returns-clause-nearest
returns-clause-nearest c = subst (λ (w : World). IfSome c.turn.result (λ pid. IsRunnable w pid × IsNearest w pid)) c.rest.ensures.world c.turn.ensures.nearest
