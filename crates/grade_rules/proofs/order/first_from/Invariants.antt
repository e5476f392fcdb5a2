use Rattle.std.proofs.Common.{ℕ, ◌<◌, ◌≤◌}
use Rattle.grade_rules.specs.Rules.{StandsAt}
use Rattle.grade_rules.proofs.order.first_from.Given as goal

abbrev pub invariant-loop-place : goal.invariant-loop-place
invariant-loop-place l = (k : ℕ) → l.start ≤ k → k < l.place → ¬ (StandsAt l.pattern l.notes k)
