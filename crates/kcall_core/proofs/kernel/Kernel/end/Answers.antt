use Rattle.kcall_core.proofs.Prelude.{◌∙◌, ap, changed_at, ended, Hart, None, refl, to_z-of_z}
use Rattle.kcall_core.proofs.table.Stops.{now-slot, ended-sound, ended-state}
use Rattle.kcall_core.proofs.kernel.Kernel.end.Goals as goal

pub returns-clause-sound : goal.returns-clause-sound
returns-clause-sound c =
    let status = to_z-of_z _ c.args.status c.ranges.status in
    let table = c.zombie.ensures ∙ ap (λ z. changed_at c.running_slot-slot.result (ended z) c.args.self.now.table) status in
    ended-sound _ c.leave.new.self c.args.status c.requires.sound c.running_slot-slot.ensures.is c.give_back.ensures table refl
    (ap (λ (h : Hart). h.root) c.leave.ensures.value) (ap (λ (h : Hart). h.cache) c.leave.ensures.value)

pub returns-clause-state : goal.returns-clause-state
returns-clause-state c =
    let status = to_z-of_z _ c.args.status c.ranges.status in
    let table = c.zombie.ensures ∙ ap (λ z. changed_at c.running_slot-slot.result (ended z) c.args.self.now.table) status in
    ended-state (record c.args.self.now { memories = c.give_back.new.self; table = c.zombie.new.self; current = None }) c.leave.new.self c.args.status
    c.requires.sound c.running_slot-slot.ensures.is c.give_back.ensures table refl
    (record { files = refl; console = refl; programs = refl; clock = refl })

pub returns-clause-table : goal.returns-clause-table
returns-clause-table c =
    let status = to_z-of_z _ c.args.status c.ranges.status in
    c.zombie.ensures ∙ ap (λ z. changed_at c.running_slot-slot.result (ended z) c.args.self.now.table) status
    ∙ ap (λ n. changed_at n (ended c.args.status) c.args.self.now.table)
    (now-slot c.running_slot-slot.result c.requires.sound c.running_slot-slot.ensures.is)

pub returns-clause-frames : goal.returns-clause-frames
returns-clause-frames c = c.give_back.ensures.frames
