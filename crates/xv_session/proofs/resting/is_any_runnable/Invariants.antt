use Rattle.std.proofs.Common.{ℕ, ◌<◌}
use Rattle.kernel_spec.specs.waking.Turns.{HasSlot}
use Rattle.kernel_spec.specs.waking.Wakes.{IsRunnable}
use Rattle.xv_session.proofs.resting.is_any_runnable.Given as goal

-- none that has one of the slots so far may run
abbrev pub invariant-loop-slot : goal.invariant-loop-slot
invariant-loop-slot l = (p k : ℕ) → k < l.slot → HasSlot l.machine.world.turns p k → ¬ IsRunnable l.machine.world p
