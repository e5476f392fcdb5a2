-- The header of a line number program (DWARF 5, section 6.2.4, and the same section of DWARF 2 to 4).
use Rattle.std.specs.Prelude.{ℕ, ◌+◌, ◌-◌, ◌==◌, Bool, true, false, not, ◌&&◌, ◌||◌, nat_lt, nat_le, if◌then◌else◌, List, length, take, slice_index, Result, Ok, Err, ℤ, pos, negsuc}
use Rattle.dwarf.specs.declared.fault.Fault.{Fault}
use Rattle.dwarf.specs.declared.fault.Fault.TheVariants.{Length, Version, Header, Operations, OpcodeBase}
use Rattle.dwarf.specs.declared.unit.Unit.{Unit}
use Rattle.dwarf.specs.declared.header.Parts.{Parts}
use Rattle.dwarf.specs.declared.line_header.LineHeader.{LineHeader}
use Rattle.dwarf.specs.Numbers.{◌>>=◌, offset, offset_bytes}

-- where the header's length stands: version 5 has two bytes before it, the sizes of an address and of a segment selector
abbrev pub length_place : Unit → ℕ
length_place unit = if unit.version == 5 then unit.body + 2 else unit.body

-- the fields stand after the header's length, which counts the bytes up to the program
unfoldable pub find_parts : Unit → List ℕ → Result Parts Fault
find_parts unit bytes = offset unit.is_wide bytes (length_place unit) >>= λ counted.
    let fields = length_place unit + offset_bytes unit.is_wide in
    if nat_lt (length bytes - fields) counted then Err (Header unit.at)
    else Ok (record { fields = fields; program = fields + counted })

-- a byte in two's complement
abbrev pub signed_byte : ℕ → ℤ
signed_byte b = if nat_lt b 128 then pos b else negsuc (255 - b)

-- versions 4 and 5 have a byte more: how many operations an instruction has
abbrev pub operation_bytes : Unit → ℕ
operation_bytes unit = if nat_le 4 unit.version then 1 else 0

-- the fields: minimum_instruction_length, (maximum_operations_per_instruction), default_is_stmt, line_base, line_range,
-- opcode_base, each of a byte, and opcode_base - 1 bytes of standard_opcode_lengths
abbrev pub header_at : Unit → Parts → ℕ → List ℕ → Result LineHeader Fault
header_at unit p fields bytes =
    if nat_lt p.program (fields + 5) then Err (Header unit.at)
    else (if (operation_bytes unit == 1) && not (slice_index bytes fields == 1) then Err (Operations unit.at)
    else (let base = slice_index bytes (fields + 4) in
    if base == 0 then Err (OpcodeBase unit.at)
    else (if nat_lt p.program (fields + 4 + base) then Err (Header unit.at)
    else Ok (record {
      version = unit.version;
      is_wide = unit.is_wide;
      instruction_bytes = slice_index bytes p.fields;
      is_statement = not (slice_index bytes (fields + 1) == 0);
      line_base = signed_byte (slice_index bytes (fields + 2));
      line_range = slice_index bytes (fields + 3);
      opcode_base = base;
      lengths = fields + 5;
      tables = fields + 4 + base;
      program = p.program;
      end = unit.end;
    }))))

unfoldable pub header_of : Unit → Parts → List ℕ → Result LineHeader Fault
header_of unit p bytes = header_at unit p (p.fields + operation_bytes unit) bytes

-- the header of a unit of a section
unfoldable pub header : List ℕ → Unit → Result LineHeader Fault
header section unit =
    if nat_lt unit.version 2 || nat_lt 5 unit.version then Err (Version unit.at)
    else (if nat_lt (length section) unit.end || nat_lt unit.end unit.body then Err (Length unit.at)
    else (let bytes = take unit.end section in find_parts unit bytes >>= λ p. header_of unit p bytes))
