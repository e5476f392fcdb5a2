use Rattle.grade_sheets.proofs.Prelude.{ℕ, ◌<◌, ◌≡◌, drop, eqb, false, starts_with}
use Rattle.grade_sheets.proofs.texts.stands_in.Given as goal

abbrev pub invariant-loop-place : goal.invariant-loop-place
invariant-loop-place l = (k : ℕ) → k < l.place → starts_with eqb (drop k l.shown) l.part ≡ false
