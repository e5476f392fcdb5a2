-- Worked cases of why a call was refused, as it is told.
use Rattle.std.proofs.Common.{◌≡◌, ◌++◌, ◌<◌, ℕ, [], List, length, codes, pos, negsuc, None, Some, refl, arith, inl, inr}
use Rattle.std.specs.Fmt.{digits}
use Rattle.kernel_spec.specs.steps.Own.{Called, Exited}
use Rattle.kernel_spec.specs.runs.Run.{Step_of}
use Rattle.xv_session.specs.Recorded.{Recorded}
use Rattle.debug_words.specs.declared.vocabulary.TheConstants.{EVENTS_MOST}
use Rattle.call_reasons.specs.declared.reason.Reason.TheVariants.{NotOpen, NotNamed}
use Rattle.xv_debug.specs.ReasonText.{IsReasonText, reason_line, too_long}

lines : reason_line (Some (NotOpen (pos 7))) ++ reason_line (Some NotNamed) ++ reason_line None ≡ codes "refused: descriptor 7 isn't open\nrefused: nothing has this name\nrefused\n"
unfolding digits
lines = refl

-- an answer that is no refusal has no line
an_answer : (s : Recorded) (text : List ℕ) → IsReasonText s (Some (Step_of 3 (Called (pos 5) (pos 1)))) text → text ≡ []
an_answer s text told = told.other (λ same. absurd (cc))

-- nor has an end with -1
an_end : (s : Recorded) (text : List ℕ) → IsReasonText s (Some (Step_of 3 (Exited (negsuc 0)))) text → text ≡ []
an_end s text told = told

-- of a long run nothing else is told
a_long_run : (s : Recorded) (text : List ℕ) → EVENTS_MOST < length s.events → IsReasonText s (Some (Step_of 3 (Called (pos 5) (negsuc 0)))) text → text ≡ too_long
a_long_run s text long told = elim (told.refused refl) [
  | inl within ↦ absurd (omega (arith, long, within.0))
  | inr past ↦ past.1
]
