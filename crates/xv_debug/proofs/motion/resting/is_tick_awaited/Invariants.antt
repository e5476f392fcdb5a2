use Rattle.std.proofs.Common.{ℕ, ◌<◌}
use Rattle.kernel_spec.specs.waking.Turns.{HasSlot}
use Rattle.xv_debug.specs.motion.Resting.{AwaitsTick}
use Rattle.xv_debug.proofs.motion.resting.is_tick_awaited.Given as goal

-- none that has one of the slots so far sleeps up to a tick
abbrev pub invariant-loop-slot : goal.invariant-loop-slot
invariant-loop-slot l = (p k : ℕ) → k < l.slot → HasSlot l.machine.world.turns p k → ¬ AwaitsTick l.machine.world p
