-- Worked places: what attributes, expressions of one operation and lists say, where members stand, and what a register has.
use Rattle.debug_info.proofs.Prelude.{[], ◌∷◌, ◌≡◌, None, refl, Some}
use Rattle.std.proofs.Common.{ℕ, ◌+◌, Option, false, nat_eq, if◌then◌else◌, true}
use Rattle.dwarf.specs.Numbers.{leb_bytes, signed, unsigned}
use Rattle.debug_info.specs.Expressions.{based, constant, frame_base, numbered_address, single}
use Rattle.debug_info.specs.Members.{bits_before, bytes_before}
use Rattle.debug_info.specs.Places.{constant_of, listed_place, spot_of, way_of}
use Rattle.debug_info.specs.declared.lists.Listed.TheVariants as lists
use Rattle.debug_info.specs.declared.places.Place.TheVariants.{Memory, OptimizedOut, Register, Unknown, Value}
use Rattle.debug_info.specs.declared.places.Way.TheVariants.{Nowhere, NotRead}
use Rattle.debug_info.specs.declared.spots.Spot.TheVariants as spots
use Rattle.debug_info.specs.declared.value.Span.{Span}
use Rattle.debug_info.specs.declared.value.Value.TheVariants as values

-- a call whose sp (2) and s0 (8) alone are known
abbrev registers : ℕ → Option ℕ
registers number = if nat_eq number 2 then Some 0x3000 else (if nat_eq number 8 then Some 0x3040 else None)

-- An entry without a place says that there is none, if its attributes are read. What isn't read doesn't say so
no_place : way_of true values.Absent ≡ Nowhere
no_place = refl

attributes_not_read : way_of false values.Absent ≡ NotRead
attributes_not_read = refl

form_not_read : way_of true values.Other ≡ NotRead
form_not_read = refl

list_ends : listed_place lists.Nowhere ≡ OptimizedOut
list_ends = refl

list_not_read : listed_place lists.NotRead ≡ Unknown
list_not_read = refl

-- a constant: a number, two bytes, bytes that aren't there, and a form that isn't read
abbrev span : (from to : ℕ) → Span
span from to = record { from = from; to = to }

constant_number : constant_of [] (values.Number 7) ≡ Some (Value 7)
constant_number = refl

constant_bytes : constant_of (9 ∷ 0x34 ∷ 0x12 ∷ 9 ∷ []) (values.Block (span 1 3)) ≡ Some (Value 0x1234)
constant_bytes = refl

constant_cut_off : constant_of (9 ∷ 0x34 ∷ []) (values.Block (span 1 3)) ≡ Some Unknown
constant_cut_off = refl

constant_too_long : constant_of (0 ∷ 1 ∷ 2 ∷ 3 ∷ 4 ∷ 5 ∷ 6 ∷ 7 ∷ 8 ∷ []) (values.Block (span 0 9)) ≡ Some Unknown
constant_too_long = refl

constant_not_read : constant_of [] values.Other ≡ Some Unknown
constant_not_read = refl

no_constant : constant_of [] values.Absent ≡ None
no_constant = refl

-- no operation, the register a0 (10), and the same with an operation after it, which isn't one place
empty_expression : single [] ≡ Some OptimizedOut
empty_expression = refl

in_register : single (0x5A ∷ []) ≡ Some (Register 10)
in_register = refl

in_parts : single (0x5A ∷ 0x93 ∷ 0x04 ∷ []) ≡ None
in_parts = refl

-- DW_OP_implicit_value of two bytes; the same cut off, and with an operation after it
implicit_two : single (0x9E ∷ 0x02 ∷ 0x34 ∷ 0x12 ∷ []) ≡ Some (Value 0x1234)
unfolding leb_bytes unsigned
implicit_two = refl

implicit_short : single (0x9E ∷ 0x02 ∷ 0x34 ∷ []) ≡ Some Unknown
unfolding leb_bytes unsigned
implicit_short = refl

implicit_long : single (0x9E ∷ 0x01 ∷ 0x34 ∷ 0x12 ∷ []) ≡ Some Unknown
unfolding leb_bytes unsigned
implicit_long = refl

-- frame bases: the CFA, sp, 16 below s0, a register that isn't known, and more than one operation
base_of_caller : frame_base registers (Some 0x3050) (0x9C ∷ []) ≡ Some 0x3050
base_of_caller = refl

base_in_sp : frame_base registers None (0x52 ∷ []) ≡ Some 0x3000
base_in_sp = refl

base_below_s0 : frame_base registers None (0x78 ∷ 0x70 ∷ []) ≡ Some 0x3030
unfolding leb_bytes signed
base_below_s0 = refl

base_not_known : frame_base registers None (0x59 ∷ []) ≡ None
base_not_known = refl

base_of_two : frame_base registers (Some 0x3050) (0x9C ∷ 0x23 ∷ 0x08 ∷ []) ≡ None
base_of_two = refl

-- -20 from the frame base, 8 from sp; address 1 of three, and -2 in two bytes
from_frame : based registers (Some 0x3050) None (λ number. None) (0x91 ∷ 0x6C ∷ []) 0x91 1 ≡ Some (0x303C, 2)
unfolding leb_bytes signed
from_frame = refl

from_register : based registers None None (λ number. None) (0x72 ∷ 0x08 ∷ []) 0x72 1 ≡ Some (0x3008, 2)
unfolding leb_bytes signed
from_register = refl

by_number : based registers None None (λ number. Some (0x1000 + number)) (0xA1 ∷ 0x05 ∷ []) 0xA1 1 ≡ Some (0x1005, 2)
unfolding leb_bytes unsigned
by_number = refl

two_bytes : constant (0x0B ∷ 0xFE ∷ 0xFF ∷ []) 0x0B 1 ≡ Some (0xFFFFFFFFFFFFFFFE, 3)
two_bytes = refl

literal : constant (0x35 ∷ []) 0x35 1 ≡ Some (5, 1)
literal = refl

not_understood : constant (0x93 ∷ 0x04 ∷ []) 0x93 1 ≡ None
not_understood = refl

second_address : numbered_address (0xFF ∷ 1 ∷ 0 ∷ 0 ∷ 0 ∷ 0 ∷ 0 ∷ 0 ∷ 0 ∷ 0x28 ∷ 0x10 ∷ 0 ∷ 0 ∷ 0 ∷ 0 ∷ 0 ∷ 0 ∷ []) 1 1 ≡ Some 0x1028
second_address = refl

no_third_address : numbered_address (0xFF ∷ 1 ∷ 0 ∷ 0 ∷ 0 ∷ 0 ∷ 0 ∷ 0 ∷ 0 ∷ []) 1 1 ≡ None
no_third_address = refl

-- a member of a union has no place; one that is told by an expression isn't read
first_byte : bytes_before values.Absent ≡ Some 0
first_byte = refl

expression_of_member : bytes_before (values.Block (span 0 2)) ≡ None
expression_of_member = refl

-- 13 bits after 5 of a number of 4 bytes; and 20 bits that begin 6 above its highest one: after 18
within_number : bits_before 0 4 14 13 ≡ 5
within_number = refl

above_number : bits_before 0 4 0xFFFFFFFFFFFFFFFA 20 ≡ 18
above_number = refl

-- a value in a register that is known, and in one that isn't
known_register : spot_of registers (Register 8) ≡ Some (spots.Number 0x3040 0)
known_register = refl

unknown_register : spot_of registers (Register 9) ≡ None
unknown_register = refl

in_memory : spot_of registers (Memory 0x1000) ≡ Some (spots.Memory 0x1000)
in_memory = refl
