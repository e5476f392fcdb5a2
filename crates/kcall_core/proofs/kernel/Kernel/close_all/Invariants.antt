use Rattle.kcall_core.proofs.Prelude.{◌-◌, ◌≡◌, ClosesFrom, Hart, IsClosing, NOFILE, Some}
use Rattle.kcall_core.proofs.kernel.Kernel.close_all.Given as goal

abbrev pub invariant-loop-closed : goal.invariant-loop-closed
invariant-loop-closed l = record { slot : l.self.current ≡ Some l.slot; closed : (hart : Hart) → IsClosing l.fn.self hart → ClosesFrom l.fn.self hart (NOFILE - l.closed) l.self }
