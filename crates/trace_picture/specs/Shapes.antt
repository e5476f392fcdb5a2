-- What a picture shows of a chart.
use Rattle.std.specs.Prelude.{◌≡◌, ℕ, pos, ◌+◌, ◌^◌, ◌-◌, Bool, true, false, ◌==◌, nat_lt, min, List, [], ◌∷◌, ◌++◌, Option, None, Some, ⊤, if◌then◌else◌}
use Rattle.std.specs.List.{count_by, position}
use Rattle.trace_picture.specs.Row.{newborn}
use Rattle.trace_picture.specs.declared.chart.Chart.{Chart}
use Rattle.trace_picture.specs.declared.chart.Row.{Row}
use Rattle.trace_picture.specs.declared.note.Note.{Note}
use Rattle.trace_picture.specs.declared.note.Note.TheVariants as notes
use Rattle.trace_picture.specs.declared.row.Phase.{Phase}
use Rattle.trace_picture.specs.declared.row.State.{State}
use Rattle.trace_picture.specs.declared.row.State.TheVariants as states
use Rattle.trace_picture.specs.declared.shape.Mark.{Mark}
use Rattle.trace_picture.specs.declared.shape.Mark.TheVariants as marks
use Rattle.trace_picture.specs.declared.shape.MarkOf.{MarkOf}
use Rattle.trace_picture.specs.declared.shape.Shape.{Shape}
use Rattle.trace_picture.specs.declared.shape.Shape.TheVariants as shapes

-- on a canvas that tells what is drawn on it, just these are drawn over what was there
abbrev pub Draws : (before after : Option (List Shape)) → List Shape → Type 0
Draws None after those = ⊤
Draws (Some was) None those = ⊥
Draws (Some was) (Some is) those = is ≡ was ++ those

-- ---- a list, item by item

-- what is shown of each item, with its place, one after another
abbrev pub all_at : {A : Type 0} → (show : ℕ → A → List Shape) → (place : ℕ) → List A → List Shape
all_at show place [] = []
all_at show place (item ∷ items) = show place item ++ all_at show (place + 1) items

-- ---- ticks

abbrev pub is_tick : Note → Bool
is_tick notes.Tick = true
is_tick _ = false

abbrev pub tick_at : (event : ℕ) → Note → List Shape
tick_at event note = if is_tick note then shapes.Tick event ∷ [] else []

-- all of them, or none if there are more than 300
abbrev pub ticks_shapes : List Note → List Shape
ticks_shapes list = if nat_lt 300 (count_by is_tick list) then [] else all_at tick_at 0 list

-- ---- rows

-- the event up to which a phase goes that begins with this one; an event's place has 64 bits
abbrev pub behind : (first : ℕ) → Phase → ℕ
behind first phase = min (first + phase.events) (2 ^ 64 - 1)

-- the process is there, in some events
abbrev pub is_there : State → Bool
is_there states.Absent = false
is_there _ = true

abbrev pub is_shown : Phase → Bool
is_shown phase = if is_there phase.state then nat_lt 0 phase.events else false

-- a part of a row's bar
abbrev pub bar : (row pid first : ℕ) → Phase → List Shape
bar row pid first phase = if is_shown phase then shapes.Bar row pid first (behind first phase) phase.state ∷ [] else []

-- the whole bar from an event on, phase by phase
abbrev pub bars : (row pid first : ℕ) → List Phase → List Shape
bars row pid first [] = []
bars row pid first (phase ∷ phases) = bar row pid first phase ++ bars row pid (behind first phase) phases

-- the name of a row's process, and its bar
abbrev pub row_shapes : (place : ℕ) → Row → List Shape
row_shapes place row = shapes.Name place row.pid ∷ bars place row.pid 0 row.phases.items

-- ---- what stands on the bars

-- a call that is done, or in which its process sleeps, and what ends a process
abbrev pub mark_of : Note → Option MarkOf
mark_of (notes.Call pid number answer) = Some (record { pid = pid; mark = marks.Answered number answer })
mark_of (notes.Block pid number) = Some (record { pid = pid; mark = marks.Waits number })
mark_of (notes.Exit pid status) = Some (record { pid = pid; mark = marks.Exit status })
mark_of (notes.Fault pid cause) = Some (record { pid = pid; mark = marks.Fault cause })
mark_of _ = None

abbrev pub place_of : Chart → (pid : ℕ) → Option ℕ
place_of chart pid = position (λ (row : Row). row.pid == pid) chart.rows.items

abbrev pub place_of_some : Chart → Option ℕ → Option ℕ
place_of_some chart None = None
place_of_some chart (Some pid) = place_of chart pid

-- the row of the child that an event made
abbrev pub child_of : Chart → Note → Option ℕ
child_of chart note = place_of_some chart (newborn note)

-- a line from a parent's bar to its child's
abbrev pub birth : (event parent : ℕ) → (child : Option ℕ) → List Shape
birth event parent None = []
birth event parent (Some child) = shapes.Birth event parent child ∷ []

-- the mark of an event on the bar of a row, and the birth of a child before it
abbrev pub marked : Chart → (event : ℕ) → Note → (row : ℕ) → Mark → List Shape
marked chart event note row mark = birth event row (child_of chart note) ++ shapes.Mark event row mark ∷ []

abbrev pub marked_at : Chart → (event : ℕ) → Note → (row : Option ℕ) → Mark → List Shape
marked_at chart event note None mark = []
marked_at chart event note (Some row) mark = marked chart event note row mark

abbrev pub marks_of : Chart → (event : ℕ) → Note → Option MarkOf → List Shape
marks_of chart event note None = []
marks_of chart event note (Some found) = marked_at chart event note (place_of chart found.pid) found.mark

abbrev pub event_shapes : Chart → (event : ℕ) → Note → List Shape
event_shapes chart event note = marks_of chart event note (mark_of note)

-- ---- the whole picture, between its legend and what stands below the rows

abbrev pub shapes_of : Chart → List Shape
shapes_of chart = ticks_shapes chart.notes.items ++ all_at row_shapes 0 chart.rows.items ++ all_at (event_shapes chart) 0 chart.notes.items
