-- Worked cases of the rules at an address, and of the frames of all functions.
use Rattle.dwarf.proofs.Prelude.{[], ℕ, ◌++◌, ◌∷◌, ◌≡◌, items, leb_bytes, List, negsuc, None, offset, Option, pos, refl, signed, Some, unit_length, unsigned}
use Rattle.std.specs.Prelude.{option_map}
use Rattle.dwarf.specs.AllFrames.{rules_at, tables_of}
use Rattle.dwarf.specs.FrameChanges.{change_at, of_opcode, of_register}
use Rattle.dwarf.specs.FrameUnits.{common_at, common_of, frame_unit, past_sizes, return_register}
use Rattle.dwarf.specs.Frames.{FramesOf, frame_step, frames_from, frames_of}
use Rattle.dwarf.specs.declared.frame.Base.{Base}
use Rattle.dwarf.specs.declared.frame.Base.TheVariants as bases
use Rattle.dwarf.specs.declared.frame.FrameRow.{FrameRow}
use Rattle.dwarf.specs.declared.frame.FrameRules.{FrameRules}
use Rattle.dwarf.specs.declared.frame.Rule.TheVariants as rules
use Rattle.dwarf.proofs.WorkedFrames.{common_bytes, function_bytes, row_of}

abbrev base_at : ℕ → List FramesOf → Option Base
base_at address tables = option_map (λ (r : FrameRules). r.base) (rules_at address tables)

abbrev from_sp : ℕ → Option Base
from_sp size = Some (bases.Register 2 (pos size))

-- two functions, of 16 bytes at 0x40 and of 8 at 0x50, and one of none at 0
abbrev two : List FramesOf
two = (0, 0, row_of 0 64 ∷ []) ∷ (0x40, 16, row_of 0x40 0 ∷ row_of 0x44 16 ∷ row_of 0x44 32 ∷ row_of 0x4C 0 ∷ []) ∷ (0x50, 8, row_of 0x50 48 ∷ []) ∷ []

pub of_no_bytes : base_at 0 two ≡ None
of_no_bytes = refl

pub before_the_first : base_at 0x3F two ≡ None
before_the_first = refl

pub at_the_first : base_at 0x40 two ≡ from_sp 0
at_the_first = refl

pub before_the_next_row : base_at 0x43 two ≡ from_sp 0
before_the_next_row = refl

-- of two rows at an address the later one holds
pub at_two_rows : base_at 0x44 two ≡ from_sp 32
at_two_rows = refl

pub last_byte_of_a_row : base_at 0x4B two ≡ from_sp 32
last_byte_of_a_row = refl

pub last_byte : base_at 0x4F two ≡ from_sp 0
last_byte = refl

pub next_function : base_at 0x50 two ≡ from_sp 48
next_function = refl

pub after_all : base_at 0x58 two ≡ None
after_all = refl

-- what is common to functions has no frames of its own
pub one_function : tables_of (common_bytes ++ function_bytes)
    ≡ (0x40, 16, row_of 0x40 0 ∷ (record { address = 0x44; rules = record { base = bases.Register 2 (pos 16); ra = rules.AtOffset (negsuc 7); s0 = rules.Unset } }) ∷ row_of 0x4C 0 ∷ []) ∷ []
unfolding items frame_unit frames_of common_at common_of past_sizes return_register frames_from frame_step change_at of_opcode of_register unit_length offset unsigned signed leb_bytes
one_function = refl

-- a function whose common entry isn't known has none, and a section that ends inside an entry has none at all
pub damaged_entry : tables_of function_bytes ≡ []
unfolding items frame_unit frames_of common_at common_of past_sizes return_register frames_from frame_step change_at of_opcode of_register unit_length offset unsigned signed leb_bytes
damaged_entry = refl

pub damaged_section : tables_of (common_bytes ++ function_bytes ++ 1 ∷ []) ≡ []
unfolding items frame_unit frames_of common_at common_of past_sizes return_register frames_from frame_step change_at of_opcode of_register unit_length offset unsigned signed leb_bytes
damaged_section = refl
