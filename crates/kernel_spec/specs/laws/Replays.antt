-- The same events once more: what a machine answers, and what each process sees, is determined by the first world and the events.
-- What isn't determined no process sees: the numbers by which the kernel keeps open files and pipes; and on a halted machine the status of a zombie whose parent is gone.
use Rattle.std.specs.Prelude.{◌≡◌, ℕ, List, Ok}
use Rattle.kernel_spec.specs.views.State.{ProgramFile}
use Rattle.kernel_spec.specs.runs.First.{first}
use Rattle.kernel_spec.specs.runs.Run.{World, Event, Outcome}
use Rattle.kernel_spec.specs.runs.Rounds.{events}
use Rattle.kernel_spec.specs.waking.Wakes.{Promised, IsPromised}
use Rattle.kernel_spec.specs.runs.Alike.{AreAlike, IsOrderly}

abbrev pub FirstIsOrderly : Type 0
FirstIsOrderly = (frames trace : ℕ) (programs : List ProgramFile) (w : World) → first frames trace programs ≡ Ok w → IsOrderly w

abbrev pub StaysOrderly : Type 0
StaysOrderly = (w t : World) (es : List (Event × Outcome)) → IsOrderly w → IsPromised w es t → IsOrderly t

-- The same event in two worlds that can't be told apart: it gives the same outcome, and leaves two worlds that can't be told apart
abbrev pub EventIsDetermined : Type 0
EventIsDetermined =
    (v w t u : World) (e : Event) (o q : Outcome) → IsOrderly v → IsOrderly w → AreAlike v w → Promised v e o t → Promised w e q u
    → (o ≡ q) × AreAlike t u

-- and so do the same events, one after another. Each place of a run ends a run, so this stands of each place
abbrev pub RunIsDetermined : Type 0
RunIsDetermined =
    (v w t u : World) (es fs : List (Event × Outcome)) → IsOrderly v → IsOrderly w → AreAlike v w → IsPromised v es t → IsPromised w fs u → events es ≡ events fs
    → (es ≡ fs) × AreAlike t u

-- From boot, with the same configuration and programs, the same events give the same outcomes, and show each process the same
abbrev pub ReplayIsTheSame : Type 0
ReplayIsTheSame =
    (frames trace : ℕ) (programs : List ProgramFile) (v w t u : World) (es fs : List (Event × Outcome))
    → first frames trace programs ≡ Ok v → first frames trace programs ≡ Ok w → IsPromised v es t → IsPromised w fs u → events es ≡ events fs
    → (es ≡ fs) × AreAlike t u
