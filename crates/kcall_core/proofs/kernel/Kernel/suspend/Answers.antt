use Rattle.kcall_core.proofs.Prelude.{◌∙◌, ap, Hart}
use Rattle.kcall_core.proofs.table.Stops.{left-sound, left-state}
use Rattle.kcall_core.proofs.kernel.Kernel.suspend.Goals as goal

pub returns-clause-sound : goal.returns-clause-sound
returns-clause-sound c =
    left-sound c.park.new.self c.args.hart.now c.leave.new.self c.park.ensures.sound c.park.ensures.stopped
    (ap (λ (h : Hart). h.root) c.leave.ensures.value, ap (λ (h : Hart). h.cache) c.leave.ensures.value)

pub returns-clause-state : goal.returns-clause-state
returns-clause-state c = left-state c.park.new.self c.args.hart.now c.leave.new.self c.park.ensures.stopped ∙ c.park.ensures.state
