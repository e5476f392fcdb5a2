-- Worked rows: what each instruction does, and small programs from their first byte to their last row.
use Rattle.dwarf.proofs.Prelude.{[], ℕ, ◌++◌, ◌∷◌, ◌≡◌, advanced, done, Err, false, first, leb_bytes, length, LineHeader, List, makes_row, moved, negsuc, None, Ok, pos, program, refl, Row, rows}
use Rattle.dwarf.proofs.Prelude.{rows_from, settled, signed, Some, step, times, true, unsigned}
use Rattle.dwarf.specs.Operations.{special, unknown, other, standard, set_address, extended_of, extended, operation}
use Rattle.dwarf.specs.declared.fault.Fault.TheVariants as faults
use Rattle.dwarf.specs.declared.operation.Operation.TheVariants as does

-- instructions of 2 bytes, special opcodes from 14 on by -3 to 8 lines; the opcode 13, which no version knows, has two numbers
abbrev h : LineHeader
h = record {
  version = 4;
  is_wide = false;
  instruction_bytes = 2;
  is_statement = true;
  line_base = negsuc 2;
  line_range = 12;
  opcode_base = 14;
  lengths = 0;
  tables = 13;
  program = 13;
  end = 13;
}

-- its list of lengths, before a program
abbrev lengths : List ℕ
lengths = 0 ∷ 1 ∷ 1 ∷ 1 ∷ 1 ∷ 0 ∷ 0 ∷ 0 ∷ 1 ∷ 0 ∷ 0 ∷ 1 ∷ 2 ∷ []

abbrev r : Row
r = first true

abbrev at : ℕ → ℕ → Row
at address line = record r { address = address; line = line }

-- special opcodes: 14 is the first, 17 advances nothing, 26 has the next address; the greatest is 255

first_special : special h 14 0 ≡ Ok (record { advance = 0; lines = negsuc 2 })
unfolding special
first_special = refl

no_advance : special h 17 0 ≡ Ok (record { advance = 0; lines = pos 0 })
unfolding special
no_advance = refl

next_address : special h 26 0 ≡ Ok (record { advance = 1; lines = negsuc 2 })
unfolding special
next_address = refl

last_special : special h 255 0 ≡ Ok (record { advance = 20; lines = negsuc 1 })
unfolding special
last_special = refl

no_range : special (record h { line_range = 0 }) 14 7 ≡ Err (faults.LineRange 7)
unfolding special
no_range = refl

-- what instructions do

by_instructions : done 2 (does.AdvanceAddress 3) (at 0x10 5) ≡ Some (at 0x16 5)
by_instructions = refl

by_bytes : done 2 (does.AdvanceBytes 3) (at 0x10 5) ≡ Some (at 0x13 5)
by_bytes = refl

address_wraps : done 2 (does.AdvanceAddress 0x7FFFFFFFFFFFFFFF) (at 0x10 5) ≡ Some (at 0xE 5)
address_wraps = refl

line_goes_back : done 2 (does.AdvanceLine (negsuc 2)) (at 0x10 5) ≡ Some (at 0x10 2)
line_goes_back = refl

line_below_0 : done 2 (does.AdvanceLine (negsuc 5)) (at 0x10 5) ≡ None
line_below_0 = refl

line_of_65_bits : done 2 (does.AdvanceLine (pos 1)) (at 0x10 0xFFFFFFFFFFFFFFFF) ≡ None
line_of_65_bits = refl

both_go_on : done 2 (does.Special 1 (pos 2)) (at 0x10 5) ≡ Some (at 0x12 7)
both_go_on = refl

no_statement : done 2 does.NegateStatement r ≡ Some (first false)
no_statement = refl

one_register : done 2 (does.SetDiscriminator 9) r ≡ Some (record r { discriminator = 9 })
one_register = refl

-- after a row
flags_go : settled true (record r { line = 7; basic_block = true; prologue_end = true; epilogue_begin = true; discriminator = 4; isa = 3 }) ≡ record r { line = 7; isa = 3 }
flags_go = refl

all_goes : settled false (record r { line = 7; isa = 3; end_sequence = true }) ≡ first false
all_goes = refl

-- instructions by their bytes

-- an opcode that isn't known, and two numbers, one of two bytes
passed_over : operation h (lengths ++ (13 ∷ 0x80 ∷ 1 ∷ 2 ∷ 1 ∷ [])) 13 ≡ Ok (record { operation = does.Unknown; next = 17 })
unfolding operation standard other unknown times leb_bytes
passed_over = refl

-- of a number that doesn't fit nothing is asked, if it is passed over
constant_advance : operation h (8 ∷ []) 0 ≡ Ok (record { operation = does.AdvanceAddress 20; next = 1 })
unfolding operation standard other special
constant_advance = refl

-- an extended opcode that isn't known, with three bytes
extended_over : operation h (0 ∷ 4 ∷ 0x80 ∷ 9 ∷ 9 ∷ 9 ∷ 1 ∷ []) 0 ≡ Ok (record { operation = does.Unknown; next = 6 })
unfolding operation extended extended_of unsigned leb_bytes
extended_over = refl

-- a length of 0, and one that leads after the end
no_opcode : operation h (0 ∷ 0 ∷ 1 ∷ []) 0 ≡ Err (faults.Length 0)
unfolding operation extended unsigned leb_bytes
no_opcode = refl

too_long : operation h (0 ∷ 2 ∷ 1 ∷ []) 0 ≡ Err (faults.Length 0)
unfolding operation extended unsigned leb_bytes
too_long = refl

-- an address of 3 bytes; a discriminator that ends after its instruction
short_address : operation h (0 ∷ 4 ∷ 2 ∷ 9 ∷ 9 ∷ 9 ∷ []) 0 ≡ Err (faults.Address 0)
unfolding operation extended extended_of set_address unsigned leb_bytes
short_address = refl

cut_discriminator : operation h (0 ∷ 2 ∷ 4 ∷ 0x80 ∷ 1 ∷ []) 0 ≡ Err (faults.Short 3)
unfolding operation extended extended_of unsigned leb_bytes
cut_discriminator = refl

-- Programs. The address 0x1000; line 3 by 2 more lines and a row; a special opcode; 3 instructions on, the end of the sequence; a
-- second sequence, whose registers are as at the beginning.
abbrev two_sequences : List ℕ
two_sequences = (0 ∷ 5 ∷ 2 ∷ 0 ∷ 0x10 ∷ 0 ∷ 0 ∷ []) ++ (3 ∷ 2 ∷ 1 ∷ []) ++ (10 ∷ 31 ∷ []) ++ (2 ∷ 3 ∷ 0 ∷ 1 ∷ 1 ∷ []) ++ (6 ∷ 1 ∷ [])

its_rows : program two_sequences (record h { program = 0 })
    ≡ Ok (at 0x1000 3 ∷ (record r { address = 0x1002; line = 5; prologue_end = true }) ∷ (record r { address = 0x1008; line = 5; end_sequence = true }) ∷ first false ∷ [])
unfolding rows_from step operation standard other special extended extended_of set_address unsigned signed leb_bytes
its_rows = refl

no_bytes : program [] (record h { program = 0 }) ≡ Ok []
unfolding rows_from
no_bytes = refl

-- an instruction that ends after the program, behind a row
cut_off : program (1 ∷ 2 ∷ []) (record h { program = 0 }) ≡ Err (faults.Short 2)
unfolding rows_from step operation standard other special unsigned leb_bytes
cut_off = refl

-- of a section the unit's bytes alone count
of_a_section : rows (1 ∷ 1 ∷ []) (record h { program = 0; end = 1 }) ≡ Ok (r ∷ [])
unfolding rows_from step operation standard
of_a_section = refl

after_the_section : rows (1 ∷ 1 ∷ []) (record h { program = 0; end = 3 }) ≡ Err (faults.Length 0)
after_the_section = refl
