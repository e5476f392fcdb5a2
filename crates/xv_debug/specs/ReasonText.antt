-- Why the call was refused that was made last, as it is told.
use Rattle.std.specs.Prelude.{◌≡◌, ◌≢◌, ◌⊎◌, ◌<◌, ◌≤◌, ℕ, ℤ, List, [], ◌++◌, codes, length, Option, None, Some}
use Rattle.kernel_spec.specs.runs.Run.{Outcome, Step_of, Turn, Idle, Ticked, Typed, Sent, Halted}
use Rattle.kernel_spec.specs.steps.Own.{Answer, Stepped, Called, Blocked, Exited, Faulted}
use Rattle.kernel_spec.specs.views.Words.{minus_one}
use Rattle.xv_session.specs.Recorded.{Recorded}
use Rattle.debug_words.specs.declared.vocabulary.TheConstants.{EVENTS_MOST}
use Rattle.call_reasons.specs.Last.{IsReasonOfLast}
use Rattle.call_reasons.specs.Words.{reason_words}
use Rattle.call_reasons.specs.declared.reason.Reason.{Reason}

abbrev pub reason_line : Option Reason → List ℕ
reason_line None = codes "refused\n"
reason_line (Some reason) = codes "refused: " ++ reason_words reason ++ codes "\n"

-- what is told in place of a reason, of a run that is too long, and if the host has too little memory
abbrev pub too_long : List ℕ
too_long = codes "refused; the run is too long to be played again, which tells why\n"

abbrev pub no_memory : List ℕ
no_memory = codes "refused; the host has too little memory to tell why\n"

-- The reason why the call of process p was refused by the last event; or that the host has too little memory, of which nothing is said here
abbrev pub IsPlayedText : Recorded → (p : ℕ) → List ℕ → Type 0
IsPlayedText s p text = ((reason : Option Reason) × IsReasonOfLast s p reason × (text ≡ reason_line reason)) ⊎ (text ≡ no_memory)

-- of a run of no more events than a word sends; of a longer one, that it is too long
abbrev pub IsRefusalText : Recorded → (p : ℕ) → List ℕ → Type 0
IsRefusalText s p text = ((length s.events ≤ EVENTS_MOST) × IsPlayedText s p text) ⊎ ((EVENTS_MOST < length s.events) × (text ≡ too_long))

-- Of a refusal it is told why, and of no other answer
pub record IsAnswerReason (s : Recorded) (p : ℕ) (value : ℤ) (text : List ℕ) : Type 0 where
  pub refused : value ≡ minus_one → IsRefusalText s p text
  pub other : value ≢ minus_one → text ≡ []

-- and of nothing else that comes of a step
abbrev pub IsStepReason : Recorded → (p : ℕ) → Answer → List ℕ → Type 0
IsStepReason s p (Called number value) text = IsAnswerReason s p value text
IsStepReason s p Stepped text = text ≡ []
IsStepReason s p (Blocked number) text = text ≡ []
IsStepReason s p (Exited status) text = text ≡ []
IsStepReason s p (Faulted cause) text = text ≡ []

abbrev pub IsOutcomeReason : Recorded → Outcome → List ℕ → Type 0
IsOutcomeReason s (Step_of p answer) text = IsStepReason s p answer text
IsOutcomeReason s (Turn p) text = text ≡ []
IsOutcomeReason s Idle text = text ≡ []
IsOutcomeReason s Ticked text = text ≡ []
IsOutcomeReason s (Typed echo) text = text ≡ []
IsOutcomeReason s (Sent byte) text = text ≡ []
IsOutcomeReason s Halted text = text ≡ []

-- of what came of the last event, if that is told
abbrev pub IsReasonText : Recorded → Option Outcome → List ℕ → Type 0
IsReasonText s None text = text ≡ []
IsReasonText s (Some o) text = IsOutcomeReason s o text
