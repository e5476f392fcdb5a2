use Rattle.kcall_core.proofs.Prelude.{ℕ, ◌<◌, FrameRole, IsUsedIn}
use Rattle.kcall_core.proofs.kernel.Kernel.owner.Given as goal

abbrev pub invariant-loop-slot : goal.invariant-loop-slot
invariant-loop-slot l = (i : ℕ) → i < l.slot → (role : FrameRole) → ¬ IsUsedIn l.self.memories i l.frame role
