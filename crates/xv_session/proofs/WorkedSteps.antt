-- Worked cases of whose step was last.
use Rattle.std.proofs.Common.{◌≡◌, [], ◌∷◌, None, Some, refl}
use Rattle.std.specs.Prelude.{pos}
use Rattle.std.specs.List.{last_or}
use Rattle.kernel_spec.specs.runs.Run.{Run, Tick, Step_of, Turn, Ticked}
use Rattle.kernel_spec.specs.steps.Own.{Stepped, Called, Blocked, Exited}
use Rattle.xv_session.specs.LastStep.{steppers}

-- before the first step it is nobody's
nobodys_at_first : last_or None (steppers ((Run, Turn 1) ∷ (Tick, Ticked) ∷ [])) ≡ None
nobodys_at_first = refl

-- a turn is no step, and no tick is one
a_turn_is_no_step : last_or None (steppers ((Run, Turn 1) ∷ (Run, Step_of 1 (Called (pos 1) (pos 2))) ∷ (Tick, Ticked) ∷ (Run, Turn 2) ∷ [])) ≡ Some 1
a_turn_is_no_step = refl

-- of two it is the later one
the_later_one : last_or None (steppers ((Run, Step_of 1 Stepped) ∷ (Run, Turn 2) ∷ (Run, Step_of 2 Stepped) ∷ [])) ≡ Some 2
the_later_one = refl

-- who waits, or is gone, has made its step
a_sleepers : last_or None (steppers ((Run, Step_of 2 Stepped) ∷ (Run, Turn 1) ∷ (Run, Step_of 1 (Blocked (pos 3))) ∷ [])) ≡ Some 1
a_sleepers = refl

of_one_that_is_gone : last_or None (steppers ((Run, Step_of 1 Stepped) ∷ (Run, Turn 3) ∷ (Run, Step_of 3 (Exited (pos 0))) ∷ (Run, Turn 1) ∷ [])) ≡ Some 3
of_one_that_is_gone = refl
