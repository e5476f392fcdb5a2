-- Expressions (DWARF 5, sections 2.5, 2.6 and 7.7.1).
use Rattle.std.specs.Prelude.{ℕ, ◌+◌, ◌-◌, ◌*◌, ◌^◌, ◌==◌, ◌&&◌, Bool, nat_lt, nat_le, nat_eq, if◌then◌else◌, List, length, drop, slice_get, Option, Some, None, Result, Ok, Err, ℤ}
use Rattle.std.specs.Int.{cast_unsigned, w64}
use Rattle.dwarf.specs.Numbers.{fixed, signed, unsigned}
use Rattle.dwarf.specs.declared.fault.Fault.{Fault}
use Rattle.debug_info.specs.Numbers.{address_from, highest_of, number_in, signed_of}
use Rattle.debug_info.specs.declared.places.Place.{Place}
use Rattle.debug_info.specs.declared.places.Place.TheVariants.{Register, Value, OptimizedOut, Unknown}

-- what is made of what was read, if it could be
abbrev pub if_read : {A B : Type 0} → (A → B) → Result A Fault → Option B
if_read f (Ok x) = Some (f x)
if_read f (Err e) = None

-- what is read first, and then what is read of that: nothing, if one of them can't be
abbrev pub and_then : {A B : Type 0} → Option A → (A → Option B) → Option B
and_then (Some x) f = f x
and_then None f = None

-- a base, and a signed number in LEB128 that says how far from it (DW_OP_fbreg, DW_OP_breg0 to DW_OP_breg31): the address, and the place after the number
abbrev pub moved : (bytes : List ℕ) → (base at : ℕ) → Option (ℕ × ℕ)
moved bytes base at = if_read (λ x. (address_from base x.0, x.1)) (signed bytes at)

-- an operation is one of a row of them
abbrev pub is_from_to : (first last operation : ℕ) → Bool
is_from_to first last operation = nat_le first operation && nat_le operation last

-- a number that an expression gives, if it ends after it
abbrev pub at_end : List ℕ → ℕ × ℕ → Option ℕ
at_end bytes x = if nat_eq x.1 (length bytes) then Some x.0 else None

-- ---- the frame base of a function (section 3.3.5), by an expression of one operation: where its caller's part of the stack begins (DW_OP_call_frame_cfa), a register (DW_OP_reg0 to DW_OP_reg31), or so far from one

abbrev pub frame_base_by : (registers : ℕ → Option ℕ) → (caller : Option ℕ) → List ℕ → (operation : ℕ) → Option ℕ
frame_base_by registers caller bytes operation =
    if operation == 0x9C && length bytes == 1 then caller
    else (if is_from_to 0x50 0x6F operation && length bytes == 1 then registers (operation - 0x50)
    else (if is_from_to 0x70 0x8F operation then and_then (registers (operation - 0x70)) (λ base. and_then (moved bytes base 1) (at_end bytes))
    else None))

abbrev pub frame_base : (registers : ℕ → Option ℕ) → (caller : Option ℕ) → List ℕ → Option ℕ
frame_base registers caller bytes = and_then (slice_get bytes 0) (frame_base_by registers caller bytes)

-- ---- addresses by their numbers (section 7.27)

-- the place of a number in a list of numbers of so many bytes, if it is below 2^64
abbrev pub place_in : (base number size : ℕ) → Option ℕ
place_in base number size = if nat_lt (number * size) (2 ^ 64) && nat_lt (base + number * size) (2 ^ 64) then Some (base + number * size) else None

abbrev pub numbered_address : List ℕ → (from number : ℕ) → Option ℕ
numbered_address addresses from number = and_then (place_in from number 8) (λ place. if_read (λ x. x) (fixed 8 addresses place))

-- ---- operations that give a number by themselves (sections 2.5.1.1 and 2.5.1.2), and the place after each

-- a signed number of so many bytes, in two's complement of 64 bits
abbrev pub turned : (bytes number : ℕ) → ℕ
turned bytes number = cast_unsigned w64 (signed_of (highest_of bytes) number)

abbrev pub unsigned_constant : (count : ℕ) → List ℕ → (at : ℕ) → Option (ℕ × ℕ)
unsigned_constant count bytes at = if_read (λ x. (x, at + count)) (fixed count bytes at)

abbrev pub signed_constant : (count : ℕ) → List ℕ → (at : ℕ) → Option (ℕ × ℕ)
signed_constant count bytes at = if_read (λ x. (turned count x, at + count)) (fixed count bytes at)

-- DW_OP_addr, DW_OP_const1u to DW_OP_const8s, DW_OP_constu, DW_OP_consts, DW_OP_lit0 to DW_OP_lit31
abbrev pub constant : List ℕ → (operation at : ℕ) → Option (ℕ × ℕ)
constant bytes operation at =
    if operation == 0x03 then unsigned_constant 8 bytes at
    else (if operation == 0x08 then unsigned_constant 1 bytes at
    else (if operation == 0x09 then signed_constant 1 bytes at
    else (if operation == 0x0A then unsigned_constant 2 bytes at
    else (if operation == 0x0B then signed_constant 2 bytes at
    else (if operation == 0x0C then unsigned_constant 4 bytes at
    else (if operation == 0x0D then signed_constant 4 bytes at
    else (if operation == 0x0E then unsigned_constant 8 bytes at
    else (if operation == 0x0F then unsigned_constant 8 bytes at
    else (if operation == 0x10 then if_read (λ x. x) (unsigned bytes at)
    else (if operation == 0x11 then if_read (λ x. (cast_unsigned w64 x.0, x.1)) (signed bytes at)
    else (if is_from_to 0x30 0x4F operation then Some (operation - 0x30, at)
    else None)))))))))))

-- the base that is there, and a distance from it
abbrev pub from_base : List ℕ → (at : ℕ) → Option ℕ → Option (ℕ × ℕ)
from_base bytes at base = and_then base (λ b. moved bytes b at)

-- DW_OP_breg0 to DW_OP_breg31, DW_OP_fbreg, DW_OP_bregx, DW_OP_call_frame_cfa, DW_OP_addrx and DW_OP_constx
abbrev pub based : (registers : ℕ → Option ℕ) → (frame caller : Option ℕ) → (addresses : ℕ → Option ℕ) → List ℕ → (operation at : ℕ) → Option (ℕ × ℕ)
based registers frame caller addresses bytes operation at =
    if is_from_to 0x70 0x8F operation then from_base bytes at (registers (operation - 0x70))
    else (if operation == 0x91 then from_base bytes at frame
    else (if operation == 0x92 then and_then (if_read (λ x. x) (unsigned bytes at)) (λ x. from_base bytes x.1 (registers x.0))
    else (if operation == 0x9C then and_then caller (λ base. Some (base, at))
    else (if operation == 0xA1 then and_then (if_read (λ x. x) (unsigned bytes at)) (λ x. and_then (addresses x.0) (λ found. Some (found, x.1)))
    else (if operation == 0xA2 then and_then (if_read (λ x. x) (unsigned bytes at)) (λ x. and_then (addresses x.0) (λ found. Some (found, x.1)))
    else constant bytes operation at)))))

-- ---- expressions of one operation that name a place without a number (sections 2.6.1.1.1 to 2.6.1.1.4)

-- a value that is told by a number, or isn't read
abbrev pub value_or_unknown : Option ℕ → Place
value_or_unknown (Some n) = Value n
value_or_unknown None = Unknown

-- the bytes of DW_OP_implicit_value, which are as many as it says, and the last of the expression
abbrev pub implicit_by : List ℕ → Option (ℕ × ℕ) → Place
implicit_by bytes (Some x) = if nat_eq (length (drop x.1 bytes)) x.0 then value_or_unknown (number_in (drop x.1 bytes)) else Unknown
implicit_by bytes None = Unknown

abbrev pub implicit : List ℕ → Place
implicit bytes = implicit_by bytes (if_read (λ x. x) (unsigned bytes 1))

-- an expression of no operation names no place; DW_OP_reg0 to DW_OP_reg31 a register; DW_OP_implicit_value is the value
abbrev pub single_by : List ℕ → Option ℕ → Option Place
single_by bytes None = Some OptimizedOut
single_by bytes (Some operation) =
    if is_from_to 0x50 0x6F operation && length bytes == 1 then Some (Register (operation - 0x50))
    else (if operation == 0x9E then Some (implicit bytes) else None)

abbrev pub single : List ℕ → Option Place
single bytes = single_by bytes (slice_get bytes 0)
