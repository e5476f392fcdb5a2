-- How a session keeps its events: equal ones, one behind another, as one span. Only this crate's private functions speak of it.
use Rattle.std.specs.Prelude.{◌≡◌, ◌≢◌, ◌⊎◌, ℕ, ◌<◌, List, [], ◌∷◌, ◌++◌, flat_map, replicate}
use Rattle.kernel_spec.specs.runs.Run.{Event}
use Rattle.xv_machine.specs.Events.{event_of}
use Rattle.xv_machine.specs.declared.event.Event as declared
use Rattle.xv_session.specs.declared.history.Span.{Span}

-- the events of a span
abbrev pub span_events : Span → List Event
span_events s = replicate s.count (event_of s.event)

-- an event, and how many of it
abbrev pub pair_of : (declared.Event × ℕ) → Event × ℕ
pair_of p = (event_of p.0, p.1)

-- those of spans, one behind another
abbrev pub all_events : List Span → List Event
all_events spans = flat_map span_events spans

-- the events of a run, and the event that may be added without room for it
pub record Kept : Type 0 where
  pub events : List Event
  pub next : Event

-- of the spans that are over, and the one that may go on
abbrev pub kept : List Span → Span → Kept
kept over last = record { events = all_events over ++ span_events last; next = event_of last.event }

-- ---- as few spans as there may be

-- the span behind these: the next one that is over, or the last
abbrev pub next_span : (over : List Span) → (last : Span) → Span
next_span [] last = last
next_span (s ∷ over) last = s

-- Equal events, one behind another, stand in one span: each span that is over has events, and the one behind it is of another event
abbrev pub AreApart : (over : List Span) → (last : Span) → Type 0
AreApart [] last = Unit {0}
AreApart (s ∷ over) last = (0 < s.count) × (event_of (next_span over last).event ≢ event_of s.event) × AreApart over last

-- These spans have the events of those, and may go on by any event: the last of them isn't empty, or it is the only one
pub record Reopens (over : List Span) (last : Span) (over_now : List Span) (now : Span) : Type 0 where
  pub events : all_events over_now ++ span_events now ≡ all_events over ++ span_events last
  pub apart : AreApart over last → AreApart over_now now
  pub opens : AreApart over last → (0 < now.count) ⊎ (over_now ≡ [])

-- Behind these spans, which have the events of those, one of another event may begin
pub record Closes (over : List Span) (last : Span) (over_now : List Span) : Type 0 where
  pub events : all_events over_now ≡ all_events over ++ span_events last
  pub apart : (s : Span) → event_of s.event ≢ event_of last.event → AreApart over last → AreApart over_now s
