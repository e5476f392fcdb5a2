-- Worked units and headers: their lengths, and what is refused of them.
use Rattle.dwarf.proofs.Prelude.{[], ℕ, ◌++◌, ◌∷◌, ◌≡◌, Err, false, length, LineHeader, List, negsuc, offset, Ok, pos, refl, replicate, take, true, Unit, unit_at, unit_length, units, units_from}
use Rattle.dwarf.specs.Headers.{find_parts, header_of, header}
use Rattle.dwarf.specs.declared.fault.Fault.TheVariants as faults

-- a unit of 3 bytes of version 4, and one of 2 bytes of version 9 in the 64-bit format
abbrev pub two_units : List ℕ
two_units = (3 ∷ 0 ∷ 0 ∷ 0 ∷ 4 ∷ 0 ∷ 7 ∷ []) ++ (0xFF ∷ 0xFF ∷ 0xFF ∷ 0xFF ∷ 2 ∷ 0 ∷ 0 ∷ 0 ∷ 0 ∷ 0 ∷ 0 ∷ 0 ∷ 9 ∷ 0 ∷ [])

abbrev pub first_unit : Unit
first_unit = record { at = 0; is_wide = false; version = 4; body = 6; end = 7 }

both : units two_units ≡ Ok (first_unit ∷ (record { at = 7; is_wide = true; version = 9; body = 21; end = 21 }) ∷ [])
unfolding units_from unit_at unit_length
both = refl

none_in_none : units [] ≡ Ok []
unfolding units_from
none_in_none = refl

-- the second ends a byte after the section
cut_off : units (take 20 two_units) ≡ Err (faults.Length 7)
unfolding units_from unit_at unit_length
cut_off = refl

-- a unit of one byte has no version; a length of FFFFFFF0 isn't one
without_version : units (1 ∷ 0 ∷ 0 ∷ 0 ∷ 4 ∷ 0 ∷ []) ≡ Err (faults.Short 4)
unfolding units_from unit_at unit_length
without_version = refl

reserved : units (0xF0 ∷ 0xFF ∷ 0xFF ∷ 0xFF ∷ 4 ∷ 0 ∷ []) ≡ Err (faults.Length 0)
unfolding units_from unit_at unit_length
reserved = refl

-- A header of version 2: its length counts 6 bytes, an opcode of the standard's takes one number, and the program has one byte.
abbrev pub of_two : List ℕ
of_two = (13 ∷ 0 ∷ 0 ∷ 0 ∷ 2 ∷ 0 ∷ []) ++ (6 ∷ 0 ∷ 0 ∷ 0 ∷ []) ++ (4 ∷ 1 ∷ 0xFB ∷ 14 ∷ 2 ∷ 1 ∷ []) ++ 1 ∷ []

abbrev pub unit_of_two : Unit
unit_of_two = record { at = 0; is_wide = false; version = 2; body = 6; end = 17 }

abbrev pub header_of_two : LineHeader
header_of_two = record {
  version = 2;
  is_wide = false;
  instruction_bytes = 4;
  is_statement = true;
  line_base = negsuc 4;
  line_range = 14;
  opcode_base = 2;
  lengths = 15;
  tables = 16;
  program = 16;
  end = 17;
}

read_of_two : header of_two unit_of_two ≡ Ok header_of_two
unfolding header find_parts header_of offset
read_of_two = refl

-- The same bytes as version 4: the second one is how many operations an instruction has. As version 1 or 6 they aren't read.
read_as_four : header of_two (record unit_of_two { version = 4 }) ≡ Ok (record {
  version = 4;
  is_wide = false;
  instruction_bytes = 4;
  is_statement = true;
  line_base = pos 14;
  line_range = 2;
  opcode_base = 1;
  lengths = 16;
  tables = 16;
  program = 16;
  end = 17;
})
unfolding header find_parts header_of offset
read_as_four = refl

-- a header of 4 bytes has no opcode_base
short_header : header ((13 ∷ 0 ∷ 0 ∷ 0 ∷ 2 ∷ 0 ∷ []) ++ (4 ∷ 0 ∷ 0 ∷ 0 ∷ []) ++ (4 ∷ 1 ∷ 0xFB ∷ 14 ∷ 2 ∷ 1 ∷ 1 ∷ [])) unit_of_two ≡ Err (faults.Header 0)
unfolding header find_parts header_of offset
short_header = refl

of_one : header of_two (record unit_of_two { version = 1 }) ≡ Err (faults.Version 0)
unfolding header
of_one = refl

of_six : header of_two (record unit_of_two { version = 6 }) ≡ Err (faults.Version 0)
unfolding header
of_six = refl

-- Version 5 has the sizes of an address and of a segment selector before its length, and 1 operation in an instruction.
abbrev pub of_five : ℕ → ℕ → List ℕ
of_five operations base = (14 ∷ 0 ∷ 0 ∷ 0 ∷ 5 ∷ 0 ∷ []) ++ (8 ∷ 0 ∷ []) ++ (6 ∷ 0 ∷ 0 ∷ 0 ∷ []) ++ (1 ∷ operations ∷ 0 ∷ 0xFF ∷ 4 ∷ base ∷ [])

abbrev pub unit_of_five : Unit
unit_of_five = record { at = 0; is_wide = false; version = 5; body = 6; end = 18 }

read_of_five : header (of_five 1 1) unit_of_five ≡ Ok (record {
  version = 5;
  is_wide = false;
  instruction_bytes = 1;
  is_statement = false;
  line_base = negsuc 0;
  line_range = 4;
  opcode_base = 1;
  lengths = 18;
  tables = 18;
  program = 18;
  end = 18;
})
unfolding header find_parts header_of offset
read_of_five = refl

several_operations : header (of_five 2 1) unit_of_five ≡ Err (faults.Operations 0)
unfolding header find_parts header_of offset
several_operations = refl

from_zero : header (of_five 1 0) unit_of_five ≡ Err (faults.OpcodeBase 0)
unfolding header find_parts header_of offset
from_zero = refl

-- a list of lengths that ends after the header
long_lengths : header (of_five 1 2) unit_of_five ≡ Err (faults.Header 0)
unfolding header find_parts header_of offset
long_lengths = refl

-- the section ends before the unit
cut_unit : header (take 17 (of_five 1 1)) unit_of_five ≡ Err (faults.Length 0)
unfolding header
cut_unit = refl
