-- What a machine that was booted and was sent any events has told.
use Rattle.std.specs.Prelude.{◌≡◌, ◌++◌, ℕ, List}
use Rattle.kernel_spec.specs.views.State.{ProgramFile}
use Rattle.kernel_spec.specs.runs.Run.{Event, Outcome}
use Rattle.kernel_spec.specs.runs.Rounds.{events}
use Rattle.xv_machine.specs.Meaning.{Meaning}
use Rattle.xv_machine.specs.Reached.{IsReached}
use Rattle.xv_claims.specs.Told.{Told, OutcomesOf, HasTold}

-- The same configuration, programs and events give one answer and no other
abbrev pub OutcomesAreDetermined : Type 0
OutcomesAreDetermined =
    (frames trace : ℕ) (programs : List ProgramFile) (wanted : List Event) (one two : Told) → OutcomesOf frames trace programs wanted one → OutcomesOf frames trace programs wanted two
    → one ≡ two

-- A machine that was booted and was sent any events has told exactly this: what the definitions give of its configuration, its programs and these events
abbrev pub TellsOutcomes : Type 0
TellsOutcomes =
    (frames trace : ℕ) (programs : List ProgramFile) (list : List (Event × Outcome)) (m : Meaning) → IsReached frames trace programs list m
    → (told : Told) × OutcomesOf frames trace programs (events list) told × HasTold list m told × ((other : Told) → OutcomesOf frames trace programs (events list) other → other ≡ told)

-- Of more events the answer goes on: what the first ones gave, and the bytes that they showed, is what they give by themselves. So nothing depends on a later event
abbrev pub OutcomesGoOn : Type 0
OutcomesGoOn =
    (frames trace : ℕ) (programs : List ProgramFile) (es fs : List Event) (told : Told) → OutcomesOf frames trace programs (es ++ fs) told
    → (before : Told) × (later : List Outcome) × (more : List ℕ) × OutcomesOf frames trace programs es before × (told.outcomes ≡ before.outcomes ++ later) × (told.bytes ≡ before.bytes ++ more)
