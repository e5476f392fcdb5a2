-- Worked call frames.
use Rattle.dwarf.proofs.Prelude.{[], ℕ, ◌++◌, ◌∷◌, ◌≡◌, Err, false, items, leb_bytes, List, negsuc, None, offset, Ok, pos, refl, replicate, signed, Some, take, true, unit_length, unsigned}
use Rattle.dwarf.specs.FrameChanges.{change_at, of_opcode, of_register, past_block}
use Rattle.dwarf.specs.Frames.{act, frame_step, frames, frames_from, frames_of, restored, taken_back, unknown, with_offset, with_register}
use Rattle.dwarf.specs.FrameUnits.{common_at, common_of, frame_unit, frame_units, past_sizes, return_register}
use Rattle.dwarf.specs.declared.fault.Fault.TheVariants as faults
use Rattle.dwarf.specs.declared.frame.Base.TheVariants as bases
use Rattle.dwarf.specs.declared.frame.FrameRow.{FrameRow}
use Rattle.dwarf.specs.declared.frame.FrameRules.{FrameRules}
use Rattle.dwarf.specs.declared.frame.Rule.TheVariants as rules
use Rattle.dwarf.specs.declared.frame_common.Common as entries
use Rattle.dwarf.specs.declared.frame_change.Change.TheVariants as changes
use Rattle.dwarf.specs.declared.frame_entries.FrameUnit.{FrameUnit}

-- What is common, as GNU's assembler writes it: version 1, advances in units of 1 byte, offsets in units of -4, ra; the CFA is sp.
abbrev pub common_bytes : List ℕ
common_bytes = (12 ∷ 0 ∷ 0 ∷ 0 ∷ []) ++ (0xFF ∷ 0xFF ∷ 0xFF ∷ 0xFF ∷ []) ++ (1 ∷ 0 ∷ 1 ∷ 0x7C ∷ 1 ∷ 0x0D ∷ 2 ∷ 0 ∷ [])

abbrev pub in_common : entries.Common
in_common = record { code_factor = 1; data_factor = negsuc 3; from = 13; end = 16 }

read_common : common_at common_bytes 0 ≡ Ok in_common
unfolding common_at common_of past_sizes return_register unit_length offset unsigned signed leb_bytes
read_common = refl

-- an augmentation isn't known
augmented : common_at ((12 ∷ 0 ∷ 0 ∷ 0 ∷ []) ++ (0xFF ∷ 0xFF ∷ 0xFF ∷ 0xFF ∷ []) ++ (1 ∷ 122 ∷ 0 ∷ 1 ∷ 0x7C ∷ 1 ∷ 0x0D ∷ 2 ∷ [])) 0 ≡ Err (faults.Common 0)
unfolding common_at common_of past_sizes return_register unit_length offset unsigned signed leb_bytes
augmented = refl

-- instructions: advances by 4; ra lies 8 below the CFA; the CFA is 16 above sp, 32 above its register, 0 above s0
advances : change_at in_common (0x44 ∷ []) 0 ≡ Ok (record { change = changes.Advance 4; next = 1 })
unfolding change_at
advances = refl

keeps_ra : change_at in_common (0x81 ∷ 2 ∷ []) 0 ≡ Ok (record { change = changes.SetRule 1 (rules.AtOffset (negsuc 7)); next = 2 })
unfolding change_at unsigned leb_bytes
keeps_ra = refl

defines : change_at in_common (0x0C ∷ 2 ∷ 16 ∷ []) 0 ≡ Ok (record { change = changes.SetBase (bases.Register 2 (pos 16)); next = 3 })
unfolding change_at of_opcode of_register unsigned leb_bytes
defines = refl

is_farther : change_at in_common (0x0E ∷ 32 ∷ []) 0 ≡ Ok (record { change = changes.SetBaseOffset (pos 32); next = 2 })
unfolding change_at of_opcode of_register unsigned leb_bytes
is_farther = refl

-- def_cfa_offset_sf: 0x7C is -4, in units of -4
has_sign : change_at in_common (0x13 ∷ 0x7C ∷ []) 0 ≡ Ok (record { change = changes.SetBaseOffset (pos 16); next = 2 })
unfolding change_at of_opcode signed leb_bytes
has_sign = refl

-- an expression of one byte is passed over; opcode 3F isn't known
by_expression : change_at in_common (0x10 ∷ 8 ∷ 1 ∷ 9 ∷ []) 0 ≡ Ok (record { change = changes.SetRule 8 rules.Other; next = 4 })
unfolding change_at of_opcode of_register past_block unsigned leb_bytes
by_expression = refl

not_known : change_at in_common (0x3F ∷ 1 ∷ 1 ∷ []) 0 ≡ Err (faults.Instruction 0)
unfolding change_at of_opcode of_register unsigned leb_bytes
not_known = refl

-- another register of the CFA, another distance
from_s0 : with_register 8 (bases.Register 2 (pos 16)) ≡ bases.Register 8 (pos 16)
from_s0 = refl

begun_by_register : with_register 2 bases.Unset ≡ bases.Register 2 (pos 0)
begun_by_register = refl

by_expression_still : with_offset (pos 16) bases.Other ≡ bases.Other
by_expression_still = refl

-- The frames of a function of 16 bytes at 0x40: from its second instruction on the stack has 16 bytes more, then ra is kept; it is
-- taken back before the last instruction.
abbrev pub function_bytes : List ℕ
function_bytes = (30 ∷ 0 ∷ 0 ∷ 0 ∷ []) ++ (0 ∷ 0 ∷ 0 ∷ 0 ∷ []) ++ (0x40 ∷ 0 ∷ 0 ∷ 0 ∷ 0 ∷ 0 ∷ 0 ∷ 0 ∷ []) ++ (16 ∷ 0 ∷ 0 ∷ 0 ∷ 0 ∷ 0 ∷ 0 ∷ 0 ∷ [])
    ++ (0x44 ∷ 0x0E ∷ 16 ∷ 0x81 ∷ 2 ∷ 0x48 ∷ 0xC1 ∷ 0x0E ∷ 0 ∷ 0 ∷ [])

abbrev pub function_unit : FrameUnit
function_unit = record { at = 16; is_common = false; common = 0; body = 24; end = 50 }

abbrev pub row_of : ℕ → ℕ → FrameRow
row_of address size = record { address = address; rules = record { base = bases.Register 2 (pos size); ra = rules.Unset; s0 = rules.Unset } }

both_entries : frame_units (common_bytes ++ function_bytes) ≡ Ok ((record { at = 0; is_common = true; common = 0xFFFFFFFF; body = 8; end = 16 }) ∷ function_unit ∷ [])
unfolding items frame_unit unit_length offset
both_entries = refl

its_frames : frames_of (common_bytes ++ function_bytes) function_unit
    ≡ Ok (0x40, 16, row_of 0x40 0 ∷ (record { address = 0x44; rules = record { base = bases.Register 2 (pos 16); ra = rules.AtOffset (negsuc 7); s0 = rules.Unset } }) ∷ row_of 0x4C 0 ∷ [])
unfolding frames_of common_at common_of past_sizes return_register frames_from frame_step change_at of_opcode of_register unit_length offset unsigned signed leb_bytes
its_frames = refl

-- rules are kept and taken back, the last ones first; none are left then
abbrev pub of_sp : FrameRules
of_sp = record { base = bases.Register 2 (pos 0); ra = rules.Unset; s0 = rules.Unset }

taken : taken_back (unknown ∷ of_sp ∷ []) ≡ Some (unknown ∷ [], of_sp)
taken = refl

never_kept : frames in_common (0x0B ∷ []) unknown 0 (row_of 0 0) ≡ Err (faults.Stack 0)
unfolding frames_from frame_step change_at of_opcode
never_kept = refl

kept_and_taken : frames in_common (0x0A ∷ 0x0E ∷ 32 ∷ 0x0B ∷ []) unknown 0 (row_of 0 16) ≡ Ok ([], row_of 0 16)
unfolding frames_from frame_step change_at of_opcode of_register unsigned leb_bytes
kept_and_taken = refl
