-- The terminal: what a step of a read takes of the bytes that were typed, what a step of a write adds to those that are to be sent,
-- and when either may go on (the xv6 book, "Code: Console input" and "Code: Console output").
use Rattle.std.specs.Prelude.{ℕ, ◌-◌, ◌==◌, ◌++◌, Bool, nat_lt, List, length, min}
use Rattle.xk_base.specs.declared.limits.TheConstants.{SEND_BYTES}
use Rattle.console_core.specs.Lists.{Console}
use Rattle.console_core.specs.Reads.{Pulled, pulled}

-- ---- a read

-- a byte is committed
abbrev pub has_committed : Console → Bool
has_committed c = nat_lt 0 (length c.committed)

-- what a read takes that has taken so many bytes before, and may take n more
abbrev pub next_line : Console → (taken n : ℕ) → Pulled
next_line c taken n = pulled (taken == 0) n c.committed

-- the committed bytes are those that it leaves
abbrev pub without_line : Pulled → Console → Console
without_line p c = record c { committed = p.left }

-- ---- a write

-- fewer bytes are to be sent than there is room for
abbrev pub has_room_to_send : Console → Bool
has_room_to_send c = nat_lt (length c.to_send) SEND_BYTES

-- how many of n bytes there is room for among those that are to be sent
abbrev pub room_for : Console → ℕ → ℕ
room_for c n = min n (SEND_BYTES - length c.to_send)

-- these bytes are to be sent, after the others
abbrev pub with_sent : List ℕ → Console → Console
with_sent bytes c = record c { to_send = c.to_send ++ bytes }
