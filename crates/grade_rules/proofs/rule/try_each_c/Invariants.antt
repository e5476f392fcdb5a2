use Rattle.std.proofs.Common.{◌≡◌, ◌≤◌, ℕ, false, true}
use Rattle.grade_rules.specs.Choices.{is_choice}
use Rattle.grade_rules.specs.Judged.{HoldsBy, IsOfAChoice, is_holding}
use Rattle.grade_rules.proofs.rule.try_each_c.Given as goal

abbrev pub invariant-loop-place : goal.invariant-loop-place
invariant-loop-place l = record {
  of : IsOfAChoice l.rule l.notes l.best;
  tried : (c : ℕ) → c ≤ l.place → is_choice (record { a = l.a; b = l.b; c = c }) ≡ true → ¬ (HoldsBy (record { a = l.a; b = l.b; c = c }) l.rule l.notes);
}
