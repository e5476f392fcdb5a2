use Rattle.kcall_core.proofs.processes.HandedDown.{IsHanded}
use Rattle.kcall_core.proofs.kernel.Kernel.fork.Given as goal

abbrev pub invariant-loop-number : goal.invariant-loop-number
invariant-loop-number l = IsHanded l.fn.self l.fn.hart l.child.slot l.number l.self
