-- What keys ask for beside the machine.
use Rattle.std.proofs.Common.{◌≡◌, refl}
use Rattle.xv_session.specs.Recorded.{Recorded}
use Rattle.xv_live.specs.Asks.{IsAskedOf, asked_by, led_by}
use Rattle.xv_live.specs.Keys.{leads}
use Rattle.xv_live.specs.declared.keys.Key.{Key}
use Rattle.xv_live.specs.declared.keys.Key.TheVariants.{Typed, Debugger, Processes, End}

pub key-leads : (k : Key) → leads k ≡ led_by (asked_by k)
key-leads (Typed byte) = refl
key-leads Debugger = refl
key-leads Processes = refl
key-leads End = refl

pub key-asks : (s : Recorded) (k : Key) → IsAskedOf s (asked_by k)
key-asks s (Typed byte) = tt
key-asks s Debugger = tt
key-asks s Processes = tt
key-asks s End = tt
