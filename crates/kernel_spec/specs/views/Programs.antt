-- The programs that a machine is given: which it refuses, and which is `init`.
use Rattle.std.specs.Prelude.{ℕ, Bool, ◌||◌, ◌==◌, nat_lt, nat_le, List, [], length, Option, None, Some, slice_get, find, is_some, codes, bytes_eq}
use Rattle.std.specs.List.{list_any, position_from}
use Rattle.xk_base.specs.declared.limits.TheConstants.{PROGRAMS_MAX, NAME_MAX, PROGRAM_BYTES}
use Rattle.kernel_spec.specs.views.State.{ProgramFile}
use Rattle.xk_base.specs.Words.{least_below}

abbrev pub console_name : List ℕ
console_name = codes "console"

abbrev pub init_name : List ℕ
init_name = codes "init"

abbrev pub name_of : Option ProgramFile → List ℕ
name_of None = []
name_of (Some p) = p.name

-- the bytes of a program's file; of none, no bytes
abbrev pub program_bytes : Option ProgramFile → List ℕ
program_bytes None = []
program_bytes (Some p) = p.bytes

-- it holds a slash (47) or a zero byte
abbrev pub has_slash_or_zero : List ℕ → Bool
has_slash_or_zero name = list_any (λ b. (b == 47) || (b == 0)) name

-- it is empty, or long, or holds a slash or a zero byte, or is the console's
abbrev pub is_bad_name : List ℕ → Bool
is_bad_name name =
    (length name == 0) || nat_lt NAME_MAX (length name)
    || has_slash_or_zero name
    || bytes_eq name console_name

abbrev pub same_name : List ProgramFile → ℕ → ℕ → Bool
same_name programs i k = bytes_eq (name_of (slice_get programs i)) (name_of (slice_get programs k))

-- a program before it has the name
abbrev pub is_earlier_name : List ProgramFile → ℕ → Bool
is_earlier_name programs i = is_some (least_below (same_name programs i) i)

-- program i is refused: there are too many, or its name is bad or an earlier one's, or its file is too long
unfoldable pub is_bad_program : List ProgramFile → ℕ → Bool
is_bad_program programs i =
    nat_le PROGRAMS_MAX i
    || is_bad_name (name_of (slice_get programs i))
    || is_earlier_name programs i
    || nat_lt PROGRAM_BYTES (length (program_bytes (slice_get programs i)))

-- the least program that is refused
unfoldable pub first_bad : List ProgramFile → Option ℕ
first_bad programs = least_below (is_bad_program programs) (length programs)

-- the program of a name
abbrev pub program_named : List ℕ → List ProgramFile → Option ProgramFile
program_named name programs = find (λ p. bytes_eq p.name name) programs

-- the place of the first program with this name
abbrev pub place_of : List ℕ → List ProgramFile → Option ℕ
place_of name programs = position_from (λ (p : ProgramFile). bytes_eq p.name name) 0 programs

unfoldable pub init_of : List ProgramFile → Option ProgramFile
init_of programs = program_named init_name programs
