use Rattle.std.proofs.Common.{◌≡◌, ◌≤◌}
use Rattle.xk_base.specs.Words.{count_below}
use Rattle.call_reasons.specs.Shown.{is_free_in}
use Rattle.call_reasons.proofs.shown.free_descriptors.Given as goal

abbrev pub invariant-loop-number : goal.invariant-loop-number
invariant-loop-number l = (l.free ≡ count_below (is_free_in l.machine.world.state l.pid) l.number) × (l.free ≤ l.number)
