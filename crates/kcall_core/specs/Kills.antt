-- Whom a call of kill asks for.
use Rattle.std.specs.Prelude.{ℕ, ℤ, pos, negsuc, Option, Some, None, if◌then◌else◌, nat_eq}

-- the number is a process's, if it is above 0
abbrev pub asked_pid : ℤ → Option ℕ
asked_pid (pos n) = if nat_eq n 0 then None else Some n
asked_pid (negsuc k) = None
