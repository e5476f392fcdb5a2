use Rattle.kernel_spec.proofs.laws.slots_stay.Goals as goal
use Rattle.kernel_spec.proofs.well.FirstWell as in-first-well
use Rattle.kernel_spec.proofs.turns.KeepsSlots as in-keeps-slots

pub returns-clause-slots_stay : goal.returns-clause-slots_stay
returns-clause-slots_stay c = in-keeps-slots.slots_stay

pub returns-clause-first_slots : goal.returns-clause-first_slots
returns-clause-first_slots c = in-first-well.first_slots
