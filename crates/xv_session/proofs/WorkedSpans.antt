-- Worked cases of spans that are apart.
use Rattle.std.specs.Prelude.{◌≡◌, ◌≢◌, ℕ, ◌<◌, [], ◌∷◌}
use Rattle.std.proofs.Common.{arith, refl}
use Rattle.xv_machine.specs.declared.event.Event.TheVariants.{Run, Tick}
use Rattle.xv_session.specs.Spans.{AreApart}

-- two Runs, a Tick, and Runs again
three : AreApart (record { event = Run; count = 2 } ∷ record { event = Tick; count = 1 } ∷ []) (record { event = Run; count = 0 })
three = (omega arith, (λ same. cc), (omega arith, (λ same. cc), tt))

-- Runs and Runs are one span
one_too_many : AreApart (record { event = Run; count = 2 } ∷ []) (record { event = Run; count = 1 }) → ⊥
one_too_many apart = apart.1 refl

-- an empty span is none
an_empty_one : AreApart (record { event = Tick; count = 0 } ∷ []) (record { event = Run; count = 1 }) → ⊥
an_empty_one apart = omega (arith, apart.0)
