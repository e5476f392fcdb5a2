-- Why a kernel call was refused, as the host is told it.
use Rattle.std.specs.Prelude.{◌≡◌, ℕ, ℤ, List, length, Option, None, Some}
use Rattle.kernel_spec.specs.views.Words.{minus_one}
use Rattle.call_reasons.specs.Asked.{call_asked}
use Rattle.call_reasons.specs.Shown.{reason_in}
use Rattle.call_reasons.specs.Words.{reason_words}
use Rattle.call_reasons.specs.declared.asked.Asked.{Asked}
use Rattle.call_reasons.specs.declared.reason.Reason.{Reason}
use Rattle.xv_session.specs.Recorded.{Recorded}
use Rattle.xv_page.specs.Told.{laid}
use Rattle.xv_page.specs.declared.answers.Answer.{Answer}
use Rattle.xv_page.specs.declared.answers.Answer.TheVariants.{Done, NotBooted, Memory, Full, Unknown}

-- the call of this number, to which these words were passed
abbrev pub asked : (number : ℤ) → (a0 a1 a2 : ℕ) → Asked
asked number a0 a1 a2 = record { number = number; a0 = a0; a1 = a1; a2 = a2 }

-- just this text is told: its length, and the text itself in the room, if it fits; or the host has too little memory, and nothing is told
abbrev pub IsTold : (text : List ℕ) → Answer → (before after : ℕ × List ℕ) → Type 0
IsTold text Done before after = (after.0 ≡ length text) × (after.1 ≡ laid text before.1)
IsTold text Memory before after = after ≡ before
IsTold text NotBooted before after = ⊥
IsTold text Full before after = ⊥
IsTold text Unknown before after = ⊥

-- a reason is told in its words, if there is one
abbrev pub ReasonTold : Option Reason → Answer → (before after : ℕ × List ℕ) → Type 0
ReasonTold None answer before after = (answer ≡ Unknown) × (after ≡ before)
ReasonTold (Some reason) answer before after = IsTold (reason_words reason) answer before after

-- why the call of a process is refused, by what its machine shows
abbrev pub RefusalTold : (pid : Option ℕ) → Asked → Option Recorded → Answer → (before after : ℕ × List ℕ) → Type 0
RefusalTold pid call None answer before after = (answer ≡ NotBooted) × (after ≡ before)
RefusalTold None call (Some s) answer before after = (answer ≡ Unknown) × (after ≡ before)
RefusalTold (Some p) call (Some s) answer before after = ReasonTold (reason_in s.machine.world.state p (call_asked call) minus_one) answer before after
