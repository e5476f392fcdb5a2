-- What is known of a session grows with it.
use Rattle.std.proofs.Common.{◌≡◌, ◌∙◌, ℕ, suc, Bool, true, List, [], Option, inl, inr, refl, ap}
use Rattle.std.specs.Prelude.{◌≢◌}
use Rattle.kernel_spec.specs.runs.Run.{Event, Run, Outcome}
use Rattle.xv_session.specs.Answers.{RunsSent, Sent}
use Rattle.xv_session.specs.Recorded.{Recorded}
use Rattle.reported_run.specs.Known.{IsKnown, Known, Learns, learned, nothing_known, runner_place}

pub known-first : (s : Recorded) (known : Known) → s.events ≡ [] → known ≡ nothing_known → IsKnown s known
known-first s known fresh nothing = record { booted = s; fresh = fresh; ways = 0; are_learned = (refl, nothing) }

known-more : (old new : Recorded) (before after : Known) → IsKnown old before → Learns old new before after → IsKnown new after
known-more old new before after is more = record { booted = is.booted; fresh = is.fresh; ways = suc is.ways; are_learned = (old, before, is.are_learned, more) }

-- by Runs, if there is memory for what is learned of the last; `was` and `is` say whether there was for all
pub known-runs : (most sent : ℕ) (last : Option Outcome) (old new : Recorded) (place : Option ℕ) (was is : Bool) (before after : Known)
    → RunsSent most sent last old new → place ≡ runner_place old → (is ≡ true → was ≡ true) → (is ≡ true → after ≡ learned new place last before)
    → (was ≡ true → IsKnown old before) → is ≡ true → IsKnown new after
known-runs most sent last old new place was is before after made there had becomes known whole =
    known-more old new before after (known (had whole)) (record { way = inl (most, sent, last, made, becomes whole ∙ ap (λ (p : Option ℕ). learned new p last before) there) })

-- by another event
pub known-event : (e : Event) (o : Outcome) (old new : Recorded) (was : Bool) (before : Known) → e ≢ Run → Sent old e o new
    → (was ≡ true → IsKnown old before) → was ≡ true → IsKnown new before
known-event e o old new was before other sent known whole =
    known-more old new before before (known whole) (record { way = inr (e, o, other, sent, refl) })
