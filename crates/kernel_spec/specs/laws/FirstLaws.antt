-- After boot: the state is well-formed, and process 1 has its slot.
use Rattle.std.specs.Prelude.{◌≡◌, ℕ, List, Ok}
use Rattle.kernel_spec.specs.views.State.{ProgramFile}
use Rattle.kernel_spec.specs.views.WellFormed.{WellFormed, HasSlots}
use Rattle.kernel_spec.specs.runs.Run.{World}
use Rattle.kernel_spec.specs.runs.First.{first}

abbrev pub FirstWell : Type 0
FirstWell = (frames trace : ℕ) (programs : List ProgramFile) (w : World) → first frames trace programs ≡ Ok w → WellFormed frames w.state

abbrev pub FirstSlots : Type 0
FirstSlots = (frames trace : ℕ) (programs : List ProgramFile) (w : World) → first frames trace programs ≡ Ok w → HasSlots w.state w.turns
