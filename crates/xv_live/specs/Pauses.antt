-- Why a machine isn't attended to any more.
use Rattle.std.specs.Prelude.{◌≡◌, Some, ⊤}
use Rattle.xv_session.specs.Recorded.{Recorded}
use Rattle.xv_live.specs.Resting.{NothingHappens}
use Rattle.xv_live.specs.declared.pauses.Pause.{Pause}
use Rattle.xv_live.specs.declared.pauses.Pause.TheVariants.{Halted, Debugger, End, NoKeys}

-- It is told that process 1 went with a status only if it did, with this one; and that no key will come any more only if nothing happens without one
abbrev pub IsPauseOf : Recorded → Pause → Type 0
IsPauseOf s (Halted status) = s.machine.world.turns.halted ≡ Some status
IsPauseOf s Debugger = ⊤
IsPauseOf s End = ⊤
IsPauseOf s NoKeys = NothingHappens s.machine.world
