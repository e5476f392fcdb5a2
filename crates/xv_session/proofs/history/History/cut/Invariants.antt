use Rattle.std.proofs.Common.{◌≡◌, ◌+◌, ◌-◌, length, take}
use Rattle.xv_session.specs.Spans.{AreApart, kept}
use Rattle.xv_session.proofs.history.History.cut.Given as goal

-- what is left begins as the events did, up to the place
abbrev pub invariant-cuts : goal.invariant-cuts
invariant-cuts l =
    (l.self-inside.count ≡ length (kept l.self-inside.over.items l.self-inside.last).events)
    × (take l.place (kept l.self-inside.over.items l.self-inside.last).events ≡ take l.place l.fn.self.events)
    × AreApart l.self-inside.over.items l.self-inside.last

abbrev pub decreases-cuts : goal.decreases-cuts
decreases-cuts l = length l.self-inside.over.items + (l.self-inside.count - l.place)
