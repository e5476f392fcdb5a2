-- The instructions of a line number program (DWARF 5, section 6.2.5).
use Rattle.std.specs.Prelude.{ℕ, ◌+◌, ◌-◌, ◌/◌, ◌%◌, ◌==◌, Bool, true, false, ◌||◌, nat_lt, nat_le, if◌then◌else◌, List, length, take, slice_index, Option, Some, None, Result, Ok, Err, ℤ, pos, ◌+ℤ◌}
use Rattle.dwarf.specs.declared.fault.Fault.{Fault}
use Rattle.dwarf.specs.declared.fault.Fault.TheVariants.{Short, LineRange, Length, Address}
use Rattle.dwarf.specs.declared.line_header.LineHeader.{LineHeader}
use Rattle.dwarf.specs.declared.operation.Operation.{Operation}
use Rattle.dwarf.specs.declared.operation.Operation.TheVariants.{Special, Copy, AdvanceAddress, AdvanceLine, SetFile, SetColumn, NegateStatement, BeginBlock, AdvanceBytes}
use Rattle.dwarf.specs.declared.operation.Operation.TheVariants.{EndPrologue, BeginEpilogue, SetIsa, EndSequence, SetAddress, SetDiscriminator, Unknown}
use Rattle.dwarf.specs.declared.operation.Decoded.{Decoded}
use Rattle.dwarf.specs.declared.operations.Advance.{Advance}
use Rattle.dwarf.specs.Numbers.{◌>>=◌, fixed, unsigned, signed, skipped}

-- By how much a special opcode goes on (section 6.2.5.1). Its number above opcode_base is divided by line_range: the quotient
-- is by how many of the shortest instructions, line_base and the rest by how many lines.
unfoldable pub special : LineHeader → ℕ → ℕ → Result Advance Fault
special h opcode at =
    if h.line_range == 0 then Err (LineRange at)
    else (let adjusted = opcode - h.opcode_base in
    Ok (record { advance = adjusted / h.line_range; lines = h.line_base +ℤ pos (adjusted % h.line_range) }))

-- Standard opcodes (section 6.2.5.2).

-- those that no number follows
abbrev pub plain : ℕ → Option Operation
plain opcode =
    if opcode == 1 then Some Copy
    else (if opcode == 6 then Some NegateStatement
    else (if opcode == 7 then Some BeginBlock
    else (if opcode == 10 then Some EndPrologue
    else (if opcode == 11 then Some BeginEpilogue else None))))

-- those that an unsigned number follows: 2, 4, 5 and 12
abbrev pub has_number : ℕ → Bool
has_number opcode = (opcode == 2) || (opcode == 4) || (opcode == 5) || (opcode == 12)

abbrev pub with_number : ℕ → ℕ → Operation
with_number opcode n =
    if opcode == 2 then AdvanceAddress n else (if opcode == 4 then SetFile n else (if opcode == 5 then SetColumn n else SetIsa n))

-- one that isn't known: the header tells how many numbers follow it
unfoldable pub unknown : LineHeader → List ℕ → ℕ → ℕ → Result Decoded Fault
unknown h bytes next opcode =
    if nat_lt (length bytes) h.lengths then Err (Short h.lengths)
    else (fixed 1 bytes (h.lengths + opcode - 1) >>= λ count.
    skipped count bytes next >>= λ after. Ok (record { operation = Unknown; next = after }))

-- 3 has a signed number, 8 advances as the special opcode 255 does, 9 has 2 bytes
unfoldable pub other : LineHeader → List ℕ → ℕ → ℕ → ℕ → Result Decoded Fault
other h bytes next opcode at =
    if opcode == 3 then (signed bytes next >>= λ x. Ok (record { operation = AdvanceLine x.0; next = x.1 }))
    else (if opcode == 8 then (special h 255 at >>= λ a. Ok (record { operation = AdvanceAddress a.advance; next = next }))
    else (if opcode == 9 then (fixed 2 bytes next >>= λ n. Ok (record { operation = AdvanceBytes n; next = next + 2 }))
    else unknown h bytes next opcode))

abbrev pub or_else : Option Operation → ℕ → Result Decoded Fault → Result Decoded Fault
or_else (Some operation) next others = Ok (record { operation = operation; next = next })
or_else None next others = others

unfoldable pub standard : LineHeader → List ℕ → ℕ → ℕ → ℕ → Result Decoded Fault
standard h bytes next opcode at = or_else (plain opcode) next
    (if has_number opcode then (unsigned bytes next >>= λ x. Ok (record { operation = with_number opcode x.0; next = x.1 }))
    else other h bytes next opcode at)

-- Extended opcodes (section 6.2.5.3): the length of what follows, the opcode, and what belongs to it.

-- 2: the address has 8 or 4 bytes
unfoldable pub set_address : List ℕ → ℕ → ℕ → ℕ → Result Operation Fault
set_address bytes operand count at =
    if count == 8 then (fixed 8 bytes operand >>= λ a. Ok (SetAddress a))
    else (if count == 4 then (fixed 4 bytes operand >>= λ a. Ok (SetAddress a)) else Err (Address at))

-- 1 ends a sequence, 4 sets the discriminator; what isn't known is passed over by its length
unfoldable pub extended_of : List ℕ → ℕ → ℕ → ℕ → ℕ → Result Operation Fault
extended_of bytes opcode operand count at =
    if opcode == 1 then Ok EndSequence
    else (if opcode == 2 then set_address bytes operand count at
    else (if opcode == 4 then (unsigned bytes operand >>= λ x. Ok (SetDiscriminator x.0)) else Ok Unknown))

unfoldable pub extended : List ℕ → ℕ → ℕ → Result Decoded Fault
extended bytes next at = unsigned bytes next >>= λ x.
    if (x.0 == 0) || nat_lt (length bytes - x.1) x.0 then Err (Length at)
    else (extended_of (take (x.1 + x.0) bytes) (slice_index bytes x.1) (x.1 + 1) (x.0 - 1) at >>= λ operation.
    Ok (record { operation = operation; next = x.1 + x.0 }))

-- the instruction at a place: special from opcode_base on, extended at 0, else standard
unfoldable pub operation : LineHeader → List ℕ → ℕ → Result Decoded Fault
operation h bytes at = fixed 1 bytes at >>= λ opcode.
    if nat_le h.opcode_base opcode
    then (special h opcode at >>= λ a. Ok (record { operation = Special a.advance a.lines; next = at + 1 }))
    else (if opcode == 0 then extended bytes (at + 1) at else standard h bytes (at + 1) opcode at)
