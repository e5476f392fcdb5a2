-- What a key of the keyboard asks for, and the keys that are the machine's.
use Rattle.std.specs.Prelude.{◌≡◌, ℕ, List, [], ◌∷◌, ◌++◌, flat_map, nat_eq, if◌then◌else◌, Option}
use Rattle.std.specs.Io.KnownBytes.{Consumes}
use Rattle.kernel_spec.specs.runs.Run as runs
use Rattle.kernel_spec.specs.runs.Run.{Event}
use Rattle.xv_live.specs.declared.host.Look.{Look}
use Rattle.xv_live.specs.declared.host.Look.TheVariants.{Came, NoneNow, Ended}
use Rattle.xv_live.specs.declared.keys.Key.{Key}
use Rattle.xv_live.specs.declared.keys.Key.TheVariants.{Typed, Debugger, Processes, End}
use Rattle.xv_live.specs.declared.pauses.Pause.{Pause}
use Rattle.xv_live.specs.declared.pauses.Pause.TheVariants as pauses
use Rattle.xv_live.specs.declared.pending.Pending.{Pending}

-- Ctrl-C opens the debugger, Ctrl-P tells the processes, Ctrl-\ ends the machine; any other key is the machine's
abbrev pub key_of : (byte : ℕ) → Key
key_of byte = if nat_eq byte 3 then Debugger else (if nat_eq byte 16 then Processes else (if nat_eq byte 28 then End else Typed byte))

-- the key, if it is the machine's
abbrev pub typed_by : Key → List ℕ
typed_by (Typed byte) = byte ∷ []
typed_by Debugger = []
typed_by Processes = []
typed_by End = []

-- of bytes that came from the keyboard, those that are the machine's
abbrev pub typed_of : List ℕ → List ℕ
typed_of bytes = flat_map (λ b. typed_by (key_of b)) bytes

-- the pause that a key asks for, if it leads away from the machine
abbrev pub leads : Key → List Pause
leads (Typed byte) = []
leads Debugger = pauses.Debugger ∷ []
leads Processes = []
leads End = pauses.End ∷ []

-- those that bytes of the keyboard ask for
abbrev pub leading_of : List ℕ → List Pause
leading_of bytes = flat_map (λ b. leads (key_of b)) bytes

-- those that were asked for by keys where this one came: one, if it is one that a key asks for; else none
abbrev pub led_to : Pause → List Pause
led_to (pauses.Halted status) = []
led_to pauses.Debugger = pauses.Debugger ∷ []
led_to pauses.End = pauses.End ∷ []
led_to pauses.NoKeys = []

-- the bytes that a look at the keyboard gives
abbrev pub bytes_in : Look → List ℕ
bytes_in (Came byte) = byte ∷ []
bytes_in NoneNow = []
bytes_in Ended = []

-- the key of an event
abbrev pub key_in : Event → List ℕ
key_in runs.Run = []
key_in runs.Tick = []
key_in (runs.Key byte) = byte ∷ []
key_in runs.Send = []

-- the keys among events
abbrev pub keys_of : List Event → List ℕ
keys_of list = flat_map key_in list

-- the keys that wait, the oldest first
abbrev pub waiting : Pending → List ℕ
waiting p = p.keys.items

-- bytes came from the keyboard; those that are the machine's wait behind the others, and these pauses are what the others ask for
pub record Looks (led : List Pause) (coming coming_after : Option (List ℕ)) (keys keys_after : List ℕ) : Type 0 where
  pub bytes : List ℕ
  pub came : Consumes coming coming_after bytes
  pub kept : keys_after ≡ keys ++ typed_of bytes
  pub asked_for : leading_of bytes ≡ led
