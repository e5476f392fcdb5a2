use Rattle.std.proofs.Common.{◌≡◌, ℕ, ◌<◌, true, false}
use Rattle.grade_rules.specs.Rules.{StandsAt, IsBefore}
use Rattle.grade_rules.proofs.counting.first_alone.Given as goal

abbrev pub invariant-loop-place : goal.invariant-loop-place
invariant-loop-place l = record {
  seen : l.seen ≡ true → IsBefore l.first l.notes l.place;
  not_seen : l.seen ≡ false → (k : ℕ) → k < l.place → ¬ (StandsAt l.first l.notes k);
  behind : (k : ℕ) → k < l.place → StandsAt l.next l.notes k → IsBefore l.first l.notes k;
}
