use Rattle.std.proofs.Common.{◌≡◌, take}
use Rattle.recorded_runs.specs.Places.{places_of}
use Rattle.recorded_runs.proofs.files.places_of.Given as goal

abbrev pub invariant-loop-sum : goal.invariant-loop-sum
invariant-loop-sum l = l.places.items ≡ places_of l.programs (take l.sum-index l.wanted)
