use Rattle.std.proofs.Common.{◌+◌, ◌-◌, ◌≤◌, ◌<◌, length}
use Rattle.recordings.proofs.Halving.{end_at}
use Rattle.recordings.proofs.recording.Recording.stretch_at.Given as goal

-- the stretches before `low` end before the place or there, and the one at `high`, if there is one, after it
abbrev pub invariant-halves : goal.invariant-halves
invariant-halves l =
    let list = l.self-inside.stretches.items in (l.low ≤ l.high) × (l.high ≤ length list) × (end_at 0 list l.low ≤ l.place) × (l.place < end_at 0 list (l.high + 1))

abbrev pub decreases-halves : goal.decreases-halves
decreases-halves l = l.high - l.low
