-- Worked cases of a session that couldn't get all events that it was to get.
use Rattle.std.proofs.Common.{◌≡◌, ◌∙◌, ℕ, List, [], ◌∷◌, ◌++◌, ap, inl, inr, refl, sym}
use Rattle.kernel_spec.specs.runs.Run as runs
use Rattle.kernel_spec.specs.runs.Run.{Event, Outcome}
use Rattle.kernel_spec.specs.runs.Rounds.{events}
use Rattle.program_files.specs.declared.failure.Failure.TheVariants.{Clock, OutOfMemory}
use Rattle.xv_session.specs.Answers.{Sent}
use Rattle.xv_session.specs.Recorded.{Recorded}
use Rattle.xv_live.specs.Breaks.{Begins, BeginsWithoutKeys, IsBreak}
use Rattle.xv_live.specs.Keys.{keys_of}
use Rattle.xv_live.proofs.Broke.{begins-one}

pub want_of_memory_breaks : IsBreak OutOfMemory
want_of_memory_breaks = inl refl

pub a_clock_that_fails_is_no_break : IsBreak Clock → ⊥
a_clock_that_fails_is_no_break (inl is) = cc
a_clock_that_fails_is_no_break (inr (inl is)) = cc
a_clock_that_fails_is_no_break (inr (inr is)) = cc

-- of two events the first was sent
pub the_first_of_two_events : (o : Outcome) (s t : Recorded) → Sent s runs.Run o t → Begins (runs.Run ∷ runs.Tick ∷ []) s t
the_first_of_two_events o s t sent = begins-one runs.Run o (runs.Tick ∷ []) s t sent

pub another_event_than_the_first : (s t : Recorded) (b : Begins (runs.Run ∷ []) s t) → events b.list ≡ runs.Tick ∷ [] → ⊥
another_event_than_the_first s t b is =
    let clash : runs.Run ∷ [] ≡ runs.Tick ∷ b.rest = b.first ∙ ap (λ (es : List Event). es ++ b.rest) is in cc

pub a_key_is_not_among_them : (s t : Recorded) (b : BeginsWithoutKeys s t) → b.wanted ≡ runs.Key 97 ∷ [] → ⊥
a_key_is_not_among_them s t b is =
    let clash : [] ≡ 97 ∷ [] = sym b.no_keys ∙ ap (λ (es : List Event). keys_of es) is in cc
