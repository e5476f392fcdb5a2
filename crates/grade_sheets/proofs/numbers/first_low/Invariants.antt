use Rattle.grade_sheets.proofs.Prelude.{ℕ, ◌+◌, ◌<◌, ◌≤◌, get_or}
use Rattle.grade_sheets.proofs.numbers.first_low.Given as goal

abbrev pub invariant-loop-place : goal.invariant-loop-place
invariant-loop-place l = (k : ℕ) → k + 1 < l.place → get_or l.numbers k 0 + l.least ≤ get_or l.numbers (k + 1) 0
