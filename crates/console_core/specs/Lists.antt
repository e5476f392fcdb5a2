-- A console is three lists of bytes.
use Rattle.std.specs.Prelude.{ℕ, ◌+◌, ◌≤◌, List, [], length}
use Rattle.xk_base.specs.declared.limits.TheConstants.{CONSOLE_BYTES, SEND_BYTES}
use Rattle.console_core.specs.declared.rings.ConsoleList.{ConsoleList}
use Rattle.console_core.specs.declared.rings.ConsoleList.TheVariants.{Committed, Uncommitted, ToSend}

-- bytes typed that a read may take, bytes typed that may still be taken back, and bytes written that wait to be sent; each list from the oldest byte on
pub record Console : Type 0 where
  pub committed : List ℕ
  pub uncommitted : List ℕ
  pub to_send : List ℕ

-- one of the three
abbrev pub list_of : ConsoleList → Console → List ℕ
list_of Committed c = c.committed
list_of Uncommitted c = c.uncommitted
list_of ToSend c = c.to_send

abbrev pub empty_console : Console
empty_console = record { committed = []; uncommitted = []; to_send = [] }

-- how many bytes were typed and not read
abbrev pub held_bytes : Console → ℕ
held_bytes c = length c.committed + length c.uncommitted

-- neither the bytes typed nor the bytes to send are more than there is room for
pub record IsWithinLimits (c : Console) : Type 0 where
  pub typed : held_bytes c ≤ CONSOLE_BYTES
  pub sent_later : length c.to_send ≤ SEND_BYTES
