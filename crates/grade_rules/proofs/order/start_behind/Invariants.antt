use Rattle.std.proofs.Common.{◌≡◌, ℕ, ◌<◌, ◌≤◌, length, get_or}
use Rattle.grade_rules.specs.Rules.{IsBehind, edge_at}
use Rattle.grade_rules.proofs.order.start_behind.Given as goal

abbrev pub invariant-loop-edge : goal.invariant-loop-edge
invariant-loop-edge l = record {
  behind : (k : ℕ) → k < l.edge-index → (edge_at l.edges k).behind ≡ length l.places → (edge_at l.edges k).before < length l.places → get_or l.places (edge_at l.edges k).before 0 < l.start;
  least : (other : ℕ) → IsBehind l.edges l.places other → l.start ≤ other;
  within : l.start ≤ l.limit;
}
