-- Texts in debugging tables: each ends before a zero byte (DWARF 5, section 7.5.5, "string").
use Rattle.std.specs.Prelude.{ℕ, ◌+◌, ◌==◌, nat_lt, if◌then◌else◌, List, length, take, drop, position, Option, Some, None, Result, Ok, Err}
use Rattle.dwarf.specs.declared.fault.Fault.{Fault}
use Rattle.dwarf.specs.declared.fault.Fault.TheVariants.{Short, Name}
use Rattle.dwarf.specs.Numbers.{◌>>=◌, or_fault}

-- how many bytes stand before the first zero byte
abbrev pub zero_in : List ℕ → Option ℕ
zero_in bytes = position (λ b. b == 0) bytes

-- the place after a text and its zero byte
unfoldable pub past_text : List ℕ → ℕ → Result ℕ Fault
past_text bytes at = or_fault (zero_in (drop at bytes)) (Short at) >>= λ n. Ok (at + n + 1)

-- the longest name has 4095 bytes, and its zero byte (POSIX, PATH_MAX)
abbrev pub NAME_BYTES : ℕ
NAME_BYTES = 4096

-- the text at a place, if it is no longer than a name
unfoldable pub name_at : List ℕ → ℕ → Result (List ℕ) Fault
name_at bytes at =
    if nat_lt (length bytes) at then Err (Name at)
    else (or_fault (zero_in (take NAME_BYTES (drop at bytes))) (Name at) >>= λ n. Ok (take n (drop at bytes)))
