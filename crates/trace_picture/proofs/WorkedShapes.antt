-- Worked cases of what a picture shows.
use Rattle.std.specs.Prelude.{◌≡◌, ℕ, pos, negsuc, List, [], ◌∷◌, replicate, None, Some, refl}
use Rattle.trace_picture.specs.declared.chart.Chart.{Chart}
use Rattle.trace_picture.specs.declared.note.Note.TheVariants as notes
use Rattle.trace_picture.specs.declared.row.State.TheVariants.{Absent, Ready, Running, Asleep}
use Rattle.trace_picture.specs.declared.shape.Mark.TheVariants as marks
use Rattle.trace_picture.specs.declared.shape.Shape.{Shape}
use Rattle.trace_picture.specs.declared.shape.Shape.TheVariants as shapes
use Rattle.trace_picture.specs.Shapes.{Draws, all_at, bars, birth, mark_of, tick_at, ticks_shapes}

-- of a process that comes after two events, waits for its turn in three, runs in one and sleeps in four, three parts are drawn
three_parts : bars 1 2 0 (record { state = Absent; events = 2 } ∷ record { state = Ready; events = 3 } ∷ record { state = Running; events = 1 } ∷ record { state = Asleep; events = 4 } ∷ [])
    ≡ shapes.Bar 1 2 2 5 Ready ∷ shapes.Bar 1 2 5 6 Running ∷ shapes.Bar 1 2 6 10 Asleep ∷ []
three_parts = refl

-- a phase of no event isn't drawn, nor is one in which the process isn't there
no_part : bars 0 1 0 (record { state = Running; events = 0 } ∷ record { state = Absent; events = 7 } ∷ []) ≡ []
no_part = refl

-- the second and the fourth event are ticks
two_ticks : ticks_shapes (notes.Turn 1 ∷ notes.Tick ∷ notes.Idle ∷ notes.Tick ∷ []) ≡ shapes.Tick 1 ∷ shapes.Tick 3 ∷ []
two_ticks = refl

-- 301 ticks are too many
too_many_ticks : ticks_shapes (replicate 301 notes.Tick) ≡ []
too_many_ticks = refl

-- a call has a mark, whatever it answers, and so has each end; a turn has none
marked : mark_of (notes.Call 3 (pos 5) (negsuc 0)) ≡ Some (record { pid = 3; mark = marks.Answered (pos 5) (negsuc 0) })
marked = refl

ended : mark_of (notes.Fault 4 13) ≡ Some (record { pid = 4; mark = marks.Fault 13 })
ended = refl

unmarked : mark_of (notes.Turn 3) ≡ None
unmarked = refl

-- on a canvas that tells what it shows, something else is no such drawing, and neither is nothing
nothing_is_drawn : Draws (Some []) (Some []) (shapes.Tick 0 ∷ []) → ⊥
nothing_is_drawn none = cc
