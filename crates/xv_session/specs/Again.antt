-- The same events once more lead to the same.
use Rattle.std.specs.Prelude.{ℕ, List}
use Rattle.kernel_spec.specs.runs.Alike.{AreAlike}
use Rattle.kernel_spec.specs.runs.Run.{Event}
use Rattle.kernel_spec.specs.views.State.{ProgramFile}
use Rattle.xv_machine.specs.Meaning.{Meaning}
use Rattle.xv_session.specs.Recorded.{IsPlayed}

-- Two machines that were booted alike and got the same events can't be told apart. So a session that has gone back to a place is as it was there
abbrev pub PlayedAgain : Type 0
PlayedAgain =
    (frames trace : ℕ) (programs : List ProgramFile) (list : List Event) (m n : Meaning) → IsPlayed frames trace programs list m → IsPlayed frames trace programs list n
    → AreAlike m.world n.world
