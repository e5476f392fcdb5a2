use Rattle.std.proofs.Common.{◌≡◌, ◌<◌, ◌≤◌, ℕ, true}
use Rattle.kernel_spec.specs.views.State.{live}
use Rattle.call_reasons.specs.Shown.{page_in}
use Rattle.call_reasons.proofs.shown.reaches_pages.Given as goal

abbrev pub invariant-loop-number : goal.invariant-loop-number
invariant-loop-number l = (k : ℕ) → l.first ≤ k → k < l.number → page_in l.access (live l.machine.world.state l.pid) k ≡ true
