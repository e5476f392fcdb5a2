-- Which processes the words of a command line ask for.
use Rattle.std.specs.Prelude.{◌≡◌, ◌≤◌, ◌<◌, ◌^◌, ◌==◌, ℕ, if◌then◌else◌, List, Option, None, Some, String, string_bytes}
use Rattle.std.specs.Str.Parse.{IsNumeral, digits_value, without_leading_plus}
use Rattle.std.specs.declared.alloc.Global.{Global}
use Rattle.xk_base.specs.declared.limits.TheConstants.{PID_MAX}

-- a number is written in decimal digits, behind a plus if need be, and is less than 2 ^ 32
abbrev pub IsNumber : (text : List ℕ) → (number : ℕ) → Type 0
IsNumber text number = IsNumeral 10 (without_leading_plus text) × (number ≡ digits_value 10 (without_leading_plus text)) × (number < 2 ^ 32)

-- a text writes 0, or a number that a pid may be
abbrev pub IsPid : (text : List ℕ) → (number : ℕ) → Type 0
IsPid text number = IsNumber text number × (number ≤ PID_MAX)

-- the process of this pid; any, if it is 0
abbrev pub pid_of : (number : ℕ) → Option ℕ
pid_of number = if number == 0 then None else Some number

-- If a text says who is asked for, a pid names a process: so the process is this one, beside which any other is asked for by the other words
abbrev pub pid_by : (process : Option (String Global)) → (number : Option ℕ) → (other : Option ℕ) → Option ℕ
pid_by (Some text) (Some number) other = pid_of number
pid_by (Some text) None other = other
pid_by None number other = other

-- and a text that is no pid names a program
abbrev pub program_by : (process : Option (String Global)) → (number : Option ℕ) → (other : Option (String Global)) → Option (String Global)
program_by (Some text) None other = Some text
program_by (Some text) (Some number) other = other
program_by None number other = other
