-- The rows that a line number program makes (DWARF 5, section 6.2).
use Rattle.std.specs.Prelude.{ℕ, zero, suc, Bool, nat_lt, nat_le, if◌then◌else◌, List, [], ◌∷◌, length, take, option_to_list, Result, Ok, Err}
use Rattle.dwarf.specs.declared.fault.Fault.{Fault}
use Rattle.dwarf.specs.declared.fault.Fault.TheVariants.{Length}
use Rattle.dwarf.specs.declared.line_header.LineHeader.{LineHeader}
use Rattle.dwarf.specs.declared.row.Row.{Row}
use Rattle.dwarf.specs.Numbers.{◌>>=◌}
use Rattle.dwarf.specs.Made.{with_front}
use Rattle.dwarf.specs.Registers.{first, step}

-- the rows of at most n instructions, from a place on, up to the end of the bytes
unfoldable pub rows_from : LineHeader → List ℕ → ℕ → ℕ → Row → Result (List Row) Fault
rows_from h bytes zero at r = Ok []
rows_from h bytes (suc n) at r =
    if nat_le (length bytes) at then Ok []
    else (step h bytes at r >>= λ s. with_front (option_to_list s.row) (rows_from h bytes n s.next s.registers))

-- the rows of a program that ends where the bytes end: it has no more instructions than bytes
abbrev pub program : List ℕ → LineHeader → Result (List Row) Fault
program bytes h = rows_from h bytes (length bytes) h.program (first h.is_statement)

-- the rows of a unit of a section
abbrev pub rows : List ℕ → LineHeader → Result (List Row) Fault
rows section h =
    if nat_lt (length section) h.end then Err (Length h.program) else program (take h.end section) h
