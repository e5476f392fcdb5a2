use Rattle.std.proofs.Common.{◌≡◌, ◌≢◌, ◌<◌, ℕ, None, get_or, length}
use Rattle.recorded_runs.specs.Taken.{IsTakenAt}
use Rattle.recorded_runs.proofs.files.lines_at.Given as goal

abbrev pub invariant-loop-place : goal.invariant-loop-place
invariant-loop-place l = record {
  count : length l.chosen.items ≡ l.place-index;
  those : (i : ℕ) → i < l.place-index → IsTakenAt l.fn.lines l.places l.chosen.items i;
  left : (place : ℕ) → ((i : ℕ) → i < l.place-index → get_or l.places i 0 ≢ place) → get_or l.lines place None ≡ get_or l.fn.lines place None;
}
