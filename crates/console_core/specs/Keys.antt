-- What a key does to a console, and what the console shows for it (the xv6 book, "Code: Console input").
use Rattle.std.specs.Prelude.{ℕ, zero, suc, ◌+◌, ◌-◌, ◌==◌, ◌||◌, nat_lt, Bool, if◌then◌else◌, List, [], ◌∷◌, ◌++◌, length, take}
use Rattle.xk_base.specs.declared.limits.TheConstants.{CONSOLE_BYTES}
use Rattle.console_core.specs.Lists.{Console, held_bytes}
use Rattle.console_core.specs.declared.keys.Key.{Key}
use Rattle.console_core.specs.declared.keys.Key.TheVariants.{Ignored, Erase, Kill, Typed}

-- 0 and 16 (Ctrl-P) are ignored, 8 (backspace) and 127 (delete) erase a byte, 21 (Ctrl-U) erases the line, 13 (Enter) types byte 10, and any other key types itself
abbrev pub meaning_of : ℕ → Key
meaning_of key =
    if key == 0 || key == 16 then Ignored
    else if key == 8 || key == 127 then Erase
    else if key == 21 then Kill
    else if key == 13 then Typed 10
    else Typed key

-- what takes n bytes off a terminal: for each a step back, a blank and a step back
abbrev pub wipes : ℕ → List ℕ
wipes zero = []
wipes (suc n) = 8 ∷ 32 ∷ 8 ∷ wipes n

-- byte 10 (a new line) and byte 4 (Ctrl-D) end a line, and so does the last byte that there is room for
abbrev pub ends_line : Console → ℕ → Bool
ends_line c byte = byte == 10 || byte == 4 || held_bytes c + 1 == CONSOLE_BYTES

-- one more uncommitted byte; where it ends a line, all uncommitted bytes are committed
abbrev pub with_byte : Console → ℕ → Console
with_byte c byte =
    if ends_line c byte
    then record c { committed = c.committed ++ (c.uncommitted ++ byte ∷ []); uncommitted = [] }
    else record c { uncommitted = c.uncommitted ++ byte ∷ [] }

-- the console after a key, and what it shows
abbrev pub line_by : Console → Key → Console × List ℕ
line_by c Ignored = (c, [])
line_by c Erase =
    if length c.uncommitted == 0 then (c, [])
    else (record c { uncommitted = take (length c.uncommitted - 1) c.uncommitted }, wipes 1)
line_by c Kill = (record c { uncommitted = [] }, wipes (length c.uncommitted))
line_by c (Typed byte) = if nat_lt (held_bytes c) CONSOLE_BYTES then (with_byte c byte, byte ∷ []) else (c, [])

abbrev pub line : Console → ℕ → Console × List ℕ
line c key = line_by c (meaning_of key)
