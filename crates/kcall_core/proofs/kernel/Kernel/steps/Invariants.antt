use Rattle.kcall_core.proofs.Prelude.{◌-◌}
use Rattle.kcall_core.proofs.making.Series.{IsMade}
use Rattle.kcall_core.proofs.kernel.Kernel.steps.Given as goal

abbrev pub invariant-stretches : goal.invariant-stretches
invariant-stretches l = IsMade l.most l.made l.fn.self l.fn.hart l.self l.hart

abbrev pub decreases-stretches : goal.decreases-stretches
decreases-stretches l = l.most - l.made
