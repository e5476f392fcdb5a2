use Rattle.std.proofs.Common.{◌<◌, ℕ}
use Rattle.call_reasons.specs.Shown.{HasNoChildIn}
use Rattle.call_reasons.proofs.shown.has_child.Given as goal

abbrev pub invariant-loop-slot : goal.invariant-loop-slot
invariant-loop-slot l = (slot : ℕ) → slot < l.slot → HasNoChildIn l.machine.world l.pid slot
