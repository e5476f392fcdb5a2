use Rattle.std.proofs.Common.{◌≡◌, map, take, string_bytes}
use Rattle.recorded_runs.specs.Places.{paths_at}
use Rattle.recorded_runs.proofs.files.paths_at.Given as goal

abbrev pub invariant-loop-place : goal.invariant-loop-place
invariant-loop-place l = map string_bytes l.chosen.items ≡ paths_at l.paths (take l.place-index l.places)
