-- The instructions of call frames (DWARF 5, section 6.4.2, with their numbers from section 7.24).
use Rattle.std.specs.Prelude.{ℕ, ◌+◌, ◌*◌, ◌/◌, ◌%◌, ◌^◌, ◌==◌, ◌||◌, nat_le, if◌then◌else◌, List, length, Option, Some, None, Result, Ok, Err, ℤ}
use Rattle.std.specs.Int.{cast_signed, int_wrapping_mul, w64}
use Rattle.dwarf.specs.declared.fault.Fault.{Fault}
use Rattle.dwarf.specs.declared.fault.Fault.TheVariants.{Short, Instruction}
use Rattle.dwarf.specs.declared.frame.Base.TheVariants as bases
use Rattle.dwarf.specs.declared.frame.Rule.TheVariants as rules
use Rattle.dwarf.specs.declared.frame_common.Common.{Common}
use Rattle.dwarf.specs.declared.frame_change.Change.{Change}
use Rattle.dwarf.specs.declared.frame_change.Change.TheVariants.{Advance, SetBase, SetBaseRegister, SetBaseOffset, SetRule, Restore, Remember, Recall, Nothing}
use Rattle.dwarf.specs.declared.frame_change.Changed.{Changed}
use Rattle.dwarf.specs.Numbers.{◌>>=◌, or_fault, fixed, unsigned, signed}

-- offsets of registers are counted in units of data_alignment_factor, in 64 bits with a sign
abbrev pub factored : Common → ℤ → ℤ
factored c count = int_wrapping_mul w64 count c.data_factor

-- advances are counted in units of code_alignment_factor, in 64 bits
abbrev pub advance : Common → ℕ → Change
advance c count = Advance ((count * c.code_factor) % 2 ^ 64)

-- a register is kept so many units above the CFA
abbrev pub kept : Common → ℕ → ℤ → Change
kept c register count = SetRule register (rules.AtOffset (factored c count))

-- a register has a rule that isn't read
abbrev pub unread : ℕ → Change
unread register = SetRule register rules.Other

-- an instruction, and the place after it
abbrev pub changed : Change → ℕ → Result Changed Fault
changed change next = Ok (record { change = change; next = next })

-- a length, and so many bytes
unfoldable pub past_block : List ℕ → ℕ → Result ℕ Fault
past_block bytes at = unsigned bytes at >>= λ count.
    if nat_le (count.1 + count.0) (length bytes) then Ok (count.1 + count.0) else Err (Short at)

-- restore_extended, undefined, same_value, def_cfa_register, def_cfa_offset, and GNU's args_size, which changes no rule
abbrev pub with_one : ℕ → ℕ → Option Change
with_one opcode n =
    if opcode == 0x06 then Some (Restore n)
    else (if opcode == 0x07 then Some (SetRule n rules.Undefined)
    else (if opcode == 0x08 then Some (SetRule n rules.SameValue)
    else (if opcode == 0x0D then Some (SetBaseRegister n)
    else (if opcode == 0x0E then Some (SetBaseOffset (cast_signed w64 n))
    else (if opcode == 0x2E then Some Nothing else None)))))

-- offset_extended, register, def_cfa, val_offset
abbrev pub with_two : Common → ℕ → ℕ → ℕ → Option Change
with_two c opcode register n =
    if opcode == 0x05 then Some (kept c register (cast_signed w64 n))
    else (if opcode == 0x09 then Some (SetRule register (rules.InRegister n))
    else (if opcode == 0x0C then Some (SetBase (bases.Register register (cast_signed w64 n)))
    else (if opcode == 0x14 then Some (unread register) else None)))

-- offset_extended_sf, def_cfa_sf, val_offset_sf: their numbers have signs
abbrev pub with_signed : Common → ℕ → ℕ → ℤ → Option Change
with_signed c opcode register n =
    if opcode == 0x11 then Some (kept c register n)
    else (if opcode == 0x12 then Some (SetBase (bases.Register register (factored c n)))
    else (if opcode == 0x15 then Some (unread register) else None))

abbrev pub or_else : Option Change → ℕ → Result Changed Fault → Result Changed Fault
or_else (Some change) next others = changed change next
or_else None next others = others

-- opcodes that a register's number follows, or another number; expression and val_expression have a block
unfoldable pub of_register : Common → List ℕ → ℕ → ℕ → Result Changed Fault
of_register c bytes opcode at = unsigned bytes (at + 1) >>= λ register. or_else (with_one opcode register.0) register.1
    (if (opcode == 0x10) || (opcode == 0x16) then (past_block bytes register.1 >>= λ next. changed (unread register.0) next)
    else (if (opcode == 0x11) || ((opcode == 0x12) || (opcode == 0x15))
    then (signed bytes register.1 >>= λ n. or_fault (with_signed c opcode register.0 n.0) (Instruction at) >>= λ change. changed change n.1)
    else (unsigned bytes register.1 >>= λ n. or_fault (with_two c opcode register.0 n.0) (Instruction at) >>= λ change. changed change n.1)))

-- nop, advance_loc1, advance_loc2, advance_loc4, remember_state, restore_state, def_cfa_expression, def_cfa_offset_sf
unfoldable pub of_opcode : Common → List ℕ → ℕ → ℕ → Result Changed Fault
of_opcode c bytes opcode at =
    if opcode == 0x00 then changed Nothing (at + 1)
    else (if opcode == 0x02 then (fixed 1 bytes (at + 1) >>= λ n. changed (advance c n) (at + 1 + 1))
    else (if opcode == 0x03 then (fixed 2 bytes (at + 1) >>= λ n. changed (advance c n) (at + 1 + 2))
    else (if opcode == 0x04 then (fixed 4 bytes (at + 1) >>= λ n. changed (advance c n) (at + 1 + 4))
    else (if opcode == 0x0A then changed Remember (at + 1)
    else (if opcode == 0x0B then changed Recall (at + 1)
    else (if opcode == 0x0F then (past_block bytes (at + 1) >>= λ next. changed (SetBase bases.Other) next)
    else (if opcode == 0x13 then (signed bytes (at + 1) >>= λ n. changed (SetBaseOffset (factored c n.0)) n.1)
    else of_register c bytes opcode at)))))))

-- the two high bits tell advance_loc (1), offset (2) and restore (3), whose number or register the six low bits are
unfoldable pub change_at : Common → List ℕ → ℕ → Result Changed Fault
change_at c bytes at = fixed 1 bytes at >>= λ opcode.
    if opcode / 64 == 0 then of_opcode c bytes opcode at
    else (if opcode / 64 == 1 then changed (advance c (opcode % 64)) (at + 1)
    else (if opcode / 64 == 2 then (unsigned bytes (at + 1) >>= λ n. changed (kept c (opcode % 64) (cast_signed w64 n.0)) n.1)
    else changed (Restore (opcode % 64)) (at + 1)))
