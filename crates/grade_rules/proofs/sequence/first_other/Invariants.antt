use Rattle.std.proofs.Common.{◌≡◌, ◌≤◌, true, drop, take, length}
use Rattle.std.specs.List.{filter}
use Rattle.grade_rules.specs.Patterns.{fits_one_of}
use Rattle.grade_rules.specs.Rules.{are_these}
use Rattle.grade_rules.proofs.sequence.first_other.Given as goal

abbrev pub invariant-loop-place : goal.invariant-loop-place
invariant-loop-place l = record {
  told : are_these l.wanted (filter (fits_one_of l.of) l.notes) ≡ are_these (drop l.done l.wanted) (filter (fits_one_of l.of) (drop l.place l.notes));
  few : l.done ≤ l.place;
  left : l.done ≤ length l.wanted;
  before : are_these (take l.done l.wanted) (filter (fits_one_of l.of) (take l.place l.notes)) ≡ true;
}
