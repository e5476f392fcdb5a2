use Rattle.std.proofs.Common.{◌≡◌, ◌≤◌, ℕ, true}
use Rattle.grade_rules.specs.Choices.{is_choice}
use Rattle.grade_rules.specs.Judged.{HoldsBy, IsOfAChoice}
use Rattle.grade_rules.proofs.rule.try_each_b.Given as goal

abbrev pub invariant-loop-place : goal.invariant-loop-place
invariant-loop-place l = record {
  of : IsOfAChoice l.rule l.notes l.best;
  tried : (b : ℕ) → b ≤ l.place → (c : ℕ) → is_choice (record { a = l.a; b = b; c = c }) ≡ true → ¬ (HoldsBy (record { a = l.a; b = b; c = c }) l.rule l.notes);
}
