use Rattle.std.proofs.Common.{ℕ, ◌<◌}
use Rattle.std.specs.Prelude.{IsSome}
use Rattle.kernel_spec.specs.views.State.{live}
use Rattle.kernel_spec.specs.waking.Turns.{HasSlot}
use Rattle.gdb_target.proofs.threads.live_or_other.Given as goal

abbrev pub invariant-loop-slot : goal.invariant-loop-slot
invariant-loop-slot l = (p k : ℕ) → k < l.slot → HasSlot l.machine.world.turns p k → ¬ IsSome (live l.machine.world.state p)
