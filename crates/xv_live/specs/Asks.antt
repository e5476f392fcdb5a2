-- What is asked for beside the machine.
use Rattle.std.specs.Prelude.{List, [], ⊤, Option, None, Some}
use Rattle.xv_session.specs.Recorded.{Recorded}
use Rattle.xv_live.specs.Resting.{NothingHappens}
use Rattle.xv_live.specs.Keys.{led_to}
use Rattle.xv_live.specs.declared.attending.Asked.{Asked}
use Rattle.xv_live.specs.declared.attending.Asked.TheVariants.{Nothing, Debugger, End, NoKeys}
use Rattle.xv_live.specs.declared.keys.Key.{Key}
use Rattle.xv_live.specs.declared.keys.Key.TheVariants as keys
use Rattle.xv_live.specs.declared.pauses.Pause.{Pause}
use Rattle.xv_live.specs.declared.pauses.Pause.TheVariants as pauses

-- that there are no more keys is told only if nothing happens without one
abbrev pub IsAskedOf : Recorded → Asked → Type 0
IsAskedOf s Nothing = ⊤
IsAskedOf s Debugger = ⊤
IsAskedOf s End = ⊤
IsAskedOf s NoKeys = NothingHappens s.machine.world

-- what a key asks for beside the machine
abbrev pub asked_by : Key → Asked
asked_by (keys.Typed byte) = Nothing
asked_by keys.Debugger = Debugger
asked_by keys.Processes = Nothing
asked_by keys.End = End

-- the pause that it leads to
abbrev pub pause_of : Asked → Option Pause
pause_of Nothing = None
pause_of Debugger = Some pauses.Debugger
pause_of End = Some pauses.End
pause_of NoKeys = Some pauses.NoKeys

-- the pauses that keys asked for where this pause came, or none
abbrev pub led_if : Option Pause → List Pause
led_if None = []
led_if (Some p) = led_to p

abbrev pub led_by : Asked → List Pause
led_by asked = led_if (pause_of asked)
