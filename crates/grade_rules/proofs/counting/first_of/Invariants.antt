use Rattle.std.proofs.Common.{◌≡◌, ℕ, ◌<◌, false}
use Rattle.grade_rules.specs.Patterns.{fits_one_of}
use Rattle.grade_rules.specs.Rules.{note_at}
use Rattle.grade_rules.proofs.counting.first_of.Given as goal

abbrev pub invariant-loop-place : goal.invariant-loop-place
invariant-loop-place l = (k : ℕ) → k < l.place → fits_one_of l.patterns (note_at l.notes k) ≡ false
