use Rattle.std.proofs.Common.{◌≡◌, ◌<◌, ◌≤◌, length, take}
use Rattle.xv_session.specs.Spans.{all_events}
use Rattle.xv_session.proofs.history.History.from_on.Given as goal

-- so many events lie before the spans that were looked at, and the place lies among these
abbrev pub invariant-spans : goal.invariant-spans
invariant-spans l = (l.at ≤ length l.self-inside.over.items) × (length (all_events (take l.at l.self-inside.over.items)) ≡ l.start) × (l.place < l.start)

abbrev pub decreases-spans : goal.decreases-spans
decreases-spans l = l.at
