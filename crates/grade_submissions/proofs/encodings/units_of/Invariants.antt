use Rattle.std.proofs.Common.{◌≡◌, ◌*◌, take}
use Rattle.grade_submissions.specs.Encodings.{units_of}
use Rattle.grade_submissions.proofs.encodings.units_of.Given as goal

abbrev pub invariant-loop-place : goal.invariant-loop-place
invariant-loop-place l = l.units.items ≡ units_of l.order (take (2 * l.place) l.bytes)
