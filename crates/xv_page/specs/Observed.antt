-- What is told of a session that isn't changed.
use Rattle.std.specs.Prelude.{◌≡◌, ℕ, ◌≤◌, Option, None, Some, slice_get}
use Rattle.kernel_spec.specs.waking.Turns.{Turns, HasSlot, IsFreeSlot}
use Rattle.kcall_core.specs.declared.kernel.observers.frame_uses.FrameUse.{FrameUse}
use Rattle.xv_machine.specs.FrameUses.{IsUsed}
use Rattle.xv_machine.specs.Meaning.{Meaning}
use Rattle.xv_machine.specs.declared.trace.Note.{Note}
use Rattle.xv_session.specs.Recorded.{Recorded}
use Rattle.xv_page.specs.Told.{facts_of, word_told, use_told, told_of_note}
use Rattle.xv_page.specs.declared.answers.Answer.{Answer}
use Rattle.xv_page.specs.declared.answers.Answer.TheVariants.{Done, NotBooted, Unknown}
use Rattle.xv_page.specs.declared.outcomes.Told.{Told}
use Rattle.xv_page.specs.declared.views.Facts.{Facts}
use Rattle.xv_page.specs.declared.views.Word.{Word}
use Rattle.xv_page.specs.declared.views.UseTold.{UseTold}

-- What a call tells of a session that changes none: this, of what its numbers name. If they name nothing, or there is no session, the call says so, and what is told stays as it was
abbrev pub Reads : {X A : Type 0} → (named : Option X) → (Recorded → X → A → Type 0) → Option Recorded → Answer → (before told : A) → Type 0
Reads named P None answer before told = (answer ≡ NotBooted) × (told ≡ before)
Reads None P (Some s) answer before told = (answer ≡ Unknown) × (told ≡ before)
Reads (Some x) P (Some s) answer before told = (answer ≡ Done) × P s x told

-- how the machine stands is told
abbrev pub FactsTold : Option Recorded → Answer → (before told : Facts) → Type 0
FactsTold None answer before told = (answer ≡ NotBooted) × (told ≡ before)
FactsTold (Some s) answer before told = (answer ≡ Done) × (told ≡ facts_of s)

-- this process is in the slot, or none is
abbrev pub IsInSlot : Turns → (slot : ℕ) → Option ℕ → Type 0
IsInSlot t slot None = IsFreeSlot t slot
IsInSlot t slot (Some pid) = HasSlot t pid slot

-- the process in a slot is told
abbrev pub IsSlotTold : Meaning → (slot : ℕ) → Word → Type 0
IsSlotTold m slot told = (pid : Option ℕ) × IsInSlot m.world.turns slot pid × (told ≡ word_told pid)

-- the machine uses the frame so, or has no such frame
abbrev pub IsUseOf : Meaning → (frame : ℕ) → Option FrameUse → Type 0
IsUseOf m frame None = m.frames.count ≤ frame
IsUseOf m frame (Some used) = IsUsed m frame used

-- the use of a frame is told
abbrev pub IsUseTold : Meaning → (frame : ℕ) → UseTold → Type 0
IsUseTold m frame told = (used : Option FrameUse) × IsUseOf m frame used × (told ≡ use_told used)

-- a note is told, if there is one
abbrev pub IsNoteTold : Option Note → (before told : Told) → Answer → Type 0
IsNoteTold None before told answer = (answer ≡ Unknown) × (told ≡ before)
IsNoteTold (Some note) before told answer = (answer ≡ Done) × (told ≡ told_of_note note)

-- the note at a place of the trace is told, or there is none, and nothing is told
abbrev pub NoteTold : (place : ℕ) → (before told : Told) → Answer → Option Recorded → Type 0
NoteTold place before told answer None = (answer ≡ NotBooted) × (told ≡ before)
NoteTold place before told answer (Some s) = IsNoteTold (slice_get s.machine.notes place) before told answer
