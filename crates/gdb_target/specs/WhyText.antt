-- Why processes don't go on, and why the last call was refused, as GDB is told.
use Rattle.std.specs.Prelude.{◌≡◌, ℕ, List, [], ◌∷◌, ◌++◌, codes, decimal, Option, None, Some}
use Rattle.std.specs.List.{concat}
use Rattle.xv_session.specs.LastStep.{IsLastStep}
use Rattle.xv_session.specs.Recorded.{Recorded}
use Rattle.call_reasons.specs.Last.{IsReasonOfLast}
use Rattle.call_reasons.specs.Words.{reason_words}
use Rattle.call_reasons.specs.declared.reason.Reason.{Reason}

-- the reason for which process p's call was refused; nothing, if there is none
abbrev pub refusal_text : (p : ℕ) → Option Reason → List ℕ
refusal_text p None = []
refusal_text p (Some reason) = concat (codes "the last call, of process " ∷ decimal p ∷ codes ", was refused: " ∷ reason_words reason ∷ codes "\n" ∷ [])

-- Of the process that made the last step it is told why its call was refused by the last event, if it was
abbrev pub IsRefusalOf : Recorded → Option ℕ → List ℕ → Type 0
IsRefusalOf s None text = text ≡ []
IsRefusalOf s (Some p) text = (reason : Option Reason) × IsReasonOfLast s p reason × (text ≡ refusal_text p reason)

abbrev pub IsLastRefusal : Recorded → List ℕ → Type 0
IsLastRefusal s text = (p : Option ℕ) × IsLastStep s p × IsRefusalOf s p text

-- What each process waits for is told by words of which nothing is said here; behind them stands why the last call was refused
abbrev pub IsWhyText : Recorded → List ℕ → Type 0
IsWhyText s text = (waits : List ℕ) × (refusal : List ℕ) × IsLastRefusal s refusal × (text ≡ waits ++ refusal)
