-- Worked cases of how calls lie on the stack.
use Rattle.std.proofs.Common.{◌≡◌, ℕ, List, [], ◌∷◌, true, false, Some, None, refl}
use Rattle.std.specs.Prelude.{pos, negsuc}
use Rattle.dwarf.specs.declared.frame.Base.TheVariants as bases
use Rattle.dwarf.specs.declared.frame.FrameRow.{FrameRow}
use Rattle.dwarf.specs.declared.frame.FrameRules.{FrameRules}
use Rattle.dwarf.specs.declared.frame.Rule.TheVariants as rules
use Rattle.line_tables.specs.declared.fact.FrameBase.TheVariants.{Sp, S0}
use Rattle.line_tables.specs.declared.fact.Fact.TheVariants.{Framed, NoFrame}
use Rattle.line_tables.specs.declared.fact.Told.{Told}
use Rattle.line_tables.specs.Frames.{bytes_below, frame_of, with_function}

-- a register that is kept 8 below the caller's part; one above it, and one that isn't kept, are told as 0
pub kept_below : bytes_below (rules.AtOffset (negsuc 7)) ≡ 8
kept_below = refl

pub kept_above : bytes_below (rules.AtOffset (pos 8)) ≡ 0
kept_above = refl

pub not_kept : bytes_below rules.SameValue ≡ 0
not_kept = refl

abbrev by : ℕ → FrameRules
by register = record { base = bases.Register register (pos 16); ra = rules.AtOffset (negsuc 7); s0 = rules.AtOffset (negsuc 15) }

-- counted from sp, register 2, and s0, register 8; from no other one
pub by_sp : frame_of (by 2) ≡ Some (record { base = Sp; size = 16; ra = 8; s0 = 16 })
by_sp = refl

pub by_s0 : frame_of (by 8) ≡ Some (record { base = S0; size = 16; ra = 8; s0 = 16 })
by_s0 = refl

pub by_a0 : frame_of (by 10) ≡ None
by_a0 = refl

-- not below its register, and not by an expression
pub below_sp : frame_of (record (by 2) { base = bases.Register 2 (negsuc 0) }) ≡ None
below_sp = refl

pub by_expression : frame_of (record (by 2) { base = bases.Other }) ≡ None
by_expression = refl

abbrev row : ℕ → FrameRow
row address = record { address = address; rules = by 2 }

abbrev told : ℕ → Told
told address = record { address = address; is_end = false; fact = Framed (record { base = Sp; size = 16; ra = 8; s0 = 16 }) }

abbrev ended : ℕ → Told
ended address = record { address = address; is_end = true; fact = NoFrame }

-- a function of 12 bytes, and one without bytes, which the linker left out
pub function : with_function 0x10 12 (row 0x10 ∷ row 0x14 ∷ []) (told 0 ∷ []) ≡ told 0 ∷ told 0x10 ∷ told 0x14 ∷ ended 0x1C ∷ []
function = refl

pub no_bytes : with_function 0x10 0 (row 0x10 ∷ []) (told 0 ∷ []) ≡ told 0 ∷ []
no_bytes = refl

-- addresses have 64 bits
pub behind_the_last_address : with_function 0xFFFFFFFFFFFFFFFC 4 (row 0x10 ∷ []) (told 0 ∷ []) ≡ told 0 ∷ []
behind_the_last_address = refl
