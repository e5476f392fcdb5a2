use Rattle.kcall_core.proofs.Prelude.{◌-◌}
use Rattle.kcall_core.proofs.making.Unwatched.{IsMade}
use Rattle.kcall_core.proofs.kernel.Kernel.steps_unwatched.Given as goal

abbrev pub invariant-rows : goal.invariant-rows
invariant-rows l = IsMade l.watch.addresses.now l.watch.bytes.now l.most l.made l.fn.self l.fn.hart l.self l.hart

abbrev pub decreases-rows : goal.decreases-rows
decreases-rows l = l.most - l.made
