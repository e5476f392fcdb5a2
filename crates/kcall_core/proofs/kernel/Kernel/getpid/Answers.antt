use Rattle.kcall_core.proofs.Prelude.{◌∙◌, ◌≡◌, ap, pid_now, pos, sym, to_z-of_z, view_of}
use Rattle.std.specs.Int.{w64}
use Rattle.kcall_core.proofs.table.Stops.{now-slot}
use Rattle.kcall_core.proofs.turns.Chosen.{pid-told}
use Rattle.kcall_core.proofs.making.CallAnswers.{done-at-once}
use Rattle.kcall_core.proofs.kernel.Kernel.getpid.Goals as goal

pub returns-clause-made : goal.returns-clause-made
unfolding view_of
returns-clause-made c call =
    let k = c.args.self.now in
    let pid : pid_now k ≡ c.pid-pid.result =
    pid-told k c.running_slot-slot.result c.pid-pid.result
    (sym (now-slot c.running_slot-slot.result c.requires.whole.sound c.running_slot-slot.ensures.is)) c.pid-pid.ensures in
    done-at-once call (pos (pid_now k))
    (to_z-of_z w64 c.from.result (record { sfits = c.from.type_inv }) ∙ c.from.ensures ∙ ap pos (c.number.ensures.value ∙ sym pid))
    c.requires.whole c.requires.running
    (record { sound = c.done.ensures.sound; kernel = c.done.ensures.kernel; state = c.done.ensures.state })
