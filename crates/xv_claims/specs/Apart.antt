-- Two processes that have nothing in common, and what is left between them (the xv6 book, "Process overview": processes are kept apart).
use Rattle.std.specs.Prelude.{◌≡◌, ◌≢◌, ℕ, ◌⊎◌, false, List, [], ◌∷◌, None, Some, IsSome}
use Rattle.std.specs.FinMap.{get}
use Rattle.console_core.specs.Lists.{Console}
use Rattle.kernel_spec.specs.views.State.{State}
use Rattle.kernel_spec.specs.views.View.{View, view, child_of}
use Rattle.kernel_spec.specs.steps.Own.{Own, gone_with}
use Rattle.kernel_spec.specs.steps.Step.{own}
use Rattle.kernel_spec.specs.runs.Run.{World, Event, Outcome, Happens}
use Rattle.kernel_spec.specs.runs.Alike.{meet_on_file, meet_on_pipe}
use Rattle.kernel_spec.specs.runs.Moments.{IsStepOf, Moment, IsMoment}

-- ---- the channels

-- What every two processes share, whatever they name: these are the channels between two that have nothing in common
pub record Channels : Type 0 where
  pub console : Console
  -- only a tick changes it
  pub clock : ℕ
  -- the pids in use
  pub pids : List ℕ
  pub next_pid : ℕ
  -- how many frames are free
  pub free : ℕ

abbrev pub channels : View → Channels
channels v = record { console = v.console; clock = v.clock; pids = v.pids; next_pid = v.next_pid; free = v.free }

-- what a step, which comes to o, of the process of view v leaves of them: the clock stays
abbrev pub channels_left : View → Own → Channels
channels_left v o = record { console = o.left.console; clock = v.clock; pids = o.left.pids; next_pid = o.left.next_pid; free = o.left.free }

-- the view in which nothing but the channels is other than in v
abbrev pub with_channels : Channels → View → View
with_channels c v = record v { console = c.console; clock = c.clock; pids = c.pids; next_pid = c.next_pid; free = c.free }

-- two views that are the same but for the channels
abbrev pub SameButChannels : View → View → Type 0
SameButChannels v w = with_channels (channels w) v ≡ w

-- ---- apart

-- no descriptor of q is on an open file, or on a pipe, that one of p's is on too
pub record AreApart (s : State) (p q : ℕ) : Type 0 where
  pub files : (d e : ℕ) → meet_on_file s q d p e ≡ false
  pub pipes : (d e : ℕ) → meet_on_pipe s q d p e ≡ false

-- a step of p that comes to o doesn't mark q (a kill); and if p ends by it, p is no child of q, which would see the status, and q isn't process 1, which gets p's children
pub record Spares (s : State) (p : ℕ) (o : Own) (q : ℕ) : Type 0 where
  pub unmarked : o.marked ≢ Some q
  pub ends : IsSome (gone_with o.answer) → (child_of q (get s.processes p) ≡ None) × (q ≢ 1)

-- ---- a run in which everybody else is apart

-- the event of w is no step of p; and if another process makes a step, it is apart from p and spares it
abbrev pub IsOfApart : ℕ → World → Event → Type 0
IsOfApart p w e = ¬ IsStepOf p w e × ((q : ℕ) (v : View) → IsStepOf q w e → view w.state q ≡ Some v → AreApart w.state q p × Spares w.state q (own v) p)

-- The run, cut at p's steps, which are these moments (`IsCut`), and every other event is of who is apart from p
abbrev pub IsCutApart : ℕ → World → List (Event × Outcome) → World → List Moment → Type 0
IsCutApart p w [] t ms = (t ≡ w) × (ms ≡ [])
IsCutApart p w (e ∷ es) t ms =
    (mid : World) × Happens w e.0 e.1 mid
    × ((IsOfApart p w e.0 × IsCutApart p mid es t ms)
    ⊎ ((m : Moment) × (later : List Moment) × (ms ≡ m ∷ later) × IsMoment p w e mid m × (IsSome m.after ⊎ (later ≡ [])) × IsCutApart p mid es t later))
