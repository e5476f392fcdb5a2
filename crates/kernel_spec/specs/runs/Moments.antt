-- Runs from boot on, and the steps of one process in a run.
use Rattle.std.specs.Prelude.{◌≡◌, ℕ, Bool, List, [], ◌∷◌, false, map, filter, nat_eq, Option, None, Some, IsSome, Ok, ◌⊎◌}
use Rattle.kernel_spec.specs.views.State.{ProgramFile}
use Rattle.kernel_spec.specs.views.View.{View, view}
use Rattle.kernel_spec.specs.runs.Run.{World, Event, Run, Outcome, Step_of, Happens, IsRun}
use Rattle.kernel_spec.specs.runs.First.{first}

-- the machine may be in this world after these events, with these outcomes
abbrev pub IsFromBoot : (frames trace : ℕ) → List ProgramFile → List (Event × Outcome) → World → Type 0
IsFromBoot frames trace programs es t = (w : World) × (first frames trace programs ≡ Ok w) × IsRun w es t

-- ---- one process's steps in a run

abbrev pub IsStepOf : ℕ → World → Event → Type 0
IsStepOf p w e = (e ≡ Run) × (w.turns.halted ≡ None) × (w.turns.current ≡ Some p)

-- a run without a step of p
abbrev pub Others : ℕ → World → List (Event × Outcome) → World → Type 0
Others p w [] t = t ≡ w
Others p w (e ∷ es) t = (mid : World) × Happens w e.0 e.1 mid × (¬ IsStepOf p w e.0) × Others p mid es t

-- what p sees as a step of it begins, what comes of the step, and what p sees then
pub record Moment : Type 0 where
  pub before : View
  pub outcome : Outcome
  pub after : Option View

-- this event, which leads from w to t, is a step of p, and this is its moment
abbrev pub IsMoment : ℕ → World → Event × Outcome → World → Moment → Type 0
IsMoment p w e t m = IsStepOf p w e.0 × (view w.state p ≡ Some m.before) × (m.outcome ≡ e.1) × (view t.state p ≡ m.after)

-- The run, cut at p's steps, which are these moments: each event is no step of p's, or it is the next moment. After the step with which p is gone there is none
abbrev pub IsCut : ℕ → World → List (Event × Outcome) → World → List Moment → Type 0
IsCut p w [] t ms = (t ≡ w) × (ms ≡ [])
IsCut p w (e ∷ es) t ms =
    (mid : World) × Happens w e.0 e.1 mid
    × ((¬ IsStepOf p w e.0 × IsCut p mid es t ms)
    ⊎ ((m : Moment) × (later : List Moment) × (ms ≡ m ∷ later) × IsMoment p w e mid m × (IsSome m.after ⊎ (later ≡ [])) × IsCut p mid es t later))

-- the steps of p in a run from w
abbrev pub Course : ℕ → World → List Moment → Type 0
Course p w ms = (es : List (Event × Outcome)) × (t : World) × IsCut p w es t ms

-- ---- what its steps gave

abbrev pub is_step_of : ℕ → Outcome → Bool
is_step_of p (Step_of q answer) = nat_eq q p
is_step_of p _ = false

-- what p's steps gave, in order
abbrev pub steps_of : ℕ → List (Event × Outcome) → List Outcome
steps_of p es = filter (is_step_of p) (map (λ e. e.1) es)

-- R holds at each place that both lists have
abbrev pub AllBoth : (Moment → Moment → Type 0) → List Moment → List Moment → Type 0
AllBoth R [] ns = Unit {0}
AllBoth R (m ∷ ms) [] = Unit {0}
AllBoth R (m ∷ ms) (n ∷ ns) = R m n × AllBoth R ms ns
