-- Events other than Run.
use Rattle.std.specs.Prelude.{ℕ, Option, None}
use Rattle.kernel_spec.specs.runs.Run.{Outcome, Step_of, Turn, Idle, Ticked, Typed, Sent, Halted}

-- the byte that was sent, if this came of Send
abbrev pub byte_sent : Outcome → Option ℕ
byte_sent (Step_of p answer) = None
byte_sent (Turn p) = None
byte_sent Idle = None
byte_sent Ticked = None
byte_sent (Typed echo) = None
byte_sent (Sent byte) = byte
byte_sent Halted = None
