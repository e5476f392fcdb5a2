use Rattle.std.proofs.Common.{◌≡◌, ℕ, ◌<◌, ◌≤◌, List, length, get_or}
use Rattle.grade_rules.specs.Rules.{IsArrangement}
use Rattle.grade_rules.proofs.order.arrange.Given as goal

abbrev pub invariant-loop-step : goal.invariant-loop-step
invariant-loop-step l = record {
  here : IsArrangement l.steps l.edges l.notes l.places.items;
  count : length l.places.items ≡ l.step-index;
  least : (other : List ℕ) → IsArrangement l.steps l.edges l.notes other → length l.places.items ≤ length other → (k : ℕ) → k < length l.places.items → get_or l.places.items k 0 ≤ get_or other k 0;
}
