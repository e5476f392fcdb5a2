-- What is so of processes that have nothing in common.
use Rattle.std.specs.Prelude.{◌≡◌, ◌≢◌, ℕ, List, Some, IsSome}
use Rattle.kernel_spec.specs.views.View.{View, view}
use Rattle.kernel_spec.specs.views.WellFormed.{AreShown}
use Rattle.kernel_spec.specs.steps.Step.{own}
use Rattle.kernel_spec.specs.runs.Run.{World, Event, Run, Outcome, Happens}
use Rattle.kernel_spec.specs.runs.Moments.{IsStepOf, Moment, AllBoth}
use Rattle.kernel_spec.specs.waking.Turns.{Sleeps}
use Rattle.kernel_spec.specs.waking.Wakes.{IsInCall, NoReadySleeper, Promised}
use Rattle.xv_claims.specs.Apart.{AreApart, Spares, SameButChannels, IsCutApart, channels, channels_left, with_channels}

-- A step of p changes for q, which is apart from p and is spared, the channels, as the step leaves them, and nothing else
abbrev pub ApartSeesChannels : Type 0
ApartSeesChannels =
    (w t : World) (p q : ℕ) (o : Outcome) (v u : View) → Happens w Run o t → IsStepOf p w Run → p ≢ q → view w.state p ≡ Some v → view w.state q ≡ Some u
    → AreApart w.state p q → Spares w.state p (own v) q
    → view t.state q ≡ Some (with_channels (channels_left v (own v)) u)

-- Two live processes that have nothing in common have nothing in common after any event: none comes to an open file or a pipe that another is on, but by being born
abbrev pub ApartLasts : Type 0
ApartLasts =
    (w t : World) (p q : ℕ) (e : Event) (o : Outcome) → Promised w e o t → AreShown w.state → p ≢ q → IsSome (view w.state p) → IsSome (view w.state q)
    → AreApart w.state p q → AreApart t.state p q

-- Who sleeps for ticks (call 13) isn't woken by another's step that doesn't mark it: of the clock's wake-ups a step makes none
abbrev pub OnlyTicksWake : Type 0
OnlyTicksWake =
    (w t : World) (p q : ℕ) (o : Outcome) (v u : View) → Promised w Run o t → IsStepOf p w Run → p ≢ q → view w.state p ≡ Some v → view w.state q ≡ Some u
    → NoReadySleeper w → Sleeps w.turns q → IsInCall 13 u → (own v).marked ≢ Some q
    → Sleeps t.turns q

-- Two worlds in which p sees the same but for the channels go on by any events, each of which is p's own step or one of who is apart from p.
-- If the channels are the same as each of p's steps begins, its steps have the same outcomes, and it sees the same before and after each, whatever else the worlds hold
abbrev pub ApartWorlds : Type 0
ApartWorlds =
    (p : ℕ) (v w x y : World) (es fs : List (Event × Outcome)) (ms ns : List Moment) (a b : View)
    → view v.state p ≡ Some a → view w.state p ≡ Some b → SameButChannels a b → IsCutApart p v es x ms → IsCutApart p w fs y ns
    → AllBoth (λ m n. channels m.before ≡ channels n.before) ms ns → AllBoth (λ m n. m ≡ n) ms ns
