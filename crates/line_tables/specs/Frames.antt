-- The rows of .debug_frame: how calls lie on the stack (DWARF 5, section 6.4).
use Rattle.std.specs.Prelude.{◌≡◌, ℕ, suc, ◌+◌, ◌^◌, ◌==◌, true, false, ◌||◌, nat_le, if◌then◌else◌, List, [], ◌∷◌, ◌++◌, map, Option, Some, None, Result, Ok, Err, ℤ, pos, negsuc}
use Rattle.dwarf.specs.declared.fault.Fault.{Fault}
use Rattle.dwarf.specs.declared.frame.Base.{Base}
use Rattle.dwarf.specs.declared.frame.Base.TheVariants as bases
use Rattle.dwarf.specs.declared.frame.Rule.{Rule}
use Rattle.dwarf.specs.declared.frame.Rule.TheVariants as rules
use Rattle.dwarf.specs.declared.frame.FrameRow.{FrameRow}
use Rattle.dwarf.specs.declared.frame.FrameRules.{FrameRules}
use Rattle.dwarf.specs.declared.frame_entries.FrameUnit.{FrameUnit}
use Rattle.dwarf.specs.Frames.{FramesOf, frames_of}
use Rattle.dwarf.specs.FrameUnits.{frame_units}
use Rattle.dwarf.specs.Numbers.{◌>>=◌}
use Rattle.line_tables.specs.declared.fact.FrameBase.{FrameBase}
use Rattle.line_tables.specs.declared.fact.FrameBase.TheVariants.{Sp, S0}
use Rattle.line_tables.specs.declared.fact.Frame.{Frame}
use Rattle.line_tables.specs.declared.fact.Fact.{Fact}
use Rattle.line_tables.specs.declared.fact.Fact.TheVariants.{Framed, NoFrame}
use Rattle.line_tables.specs.declared.fact.Told.{Told}

-- Where registers are kept: so many bytes below the caller's part of the stack. 0: elsewhere, or not told.

abbrev pub below_zero : ℤ → ℕ
below_zero (pos n) = 0
below_zero (negsuc n) = suc n

abbrev pub bytes_below : Rule → ℕ
bytes_below (rules.AtOffset offset) = below_zero offset
bytes_below _ = 0

-- Where the caller's part begins: so many bytes above sp, register 2, or s0, register 8 (RISC-V ABIs, "DWARF Register Numbers").

abbrev pub frame_base : ℕ → Option FrameBase
frame_base register = if register == 2 then Some Sp else (if register == 8 then Some S0 else None)

abbrev pub framed : ℕ → FrameRules → Option FrameBase → Option Frame
framed size r (Some base) = Some (record { base = base; size = size; ra = bytes_below r.ra; s0 = bytes_below r.s0 })
framed size r None = None

abbrev pub framed_at : ℕ → ℤ → FrameRules → Option Frame
framed_at register (pos size) r = framed size r (frame_base register)
framed_at register (negsuc n) r = None

abbrev pub framed_by : Base → FrameRules → Option Frame
framed_by (bases.Register register offset) r = framed_at register offset r
framed_by bases.Unset r = None
framed_by bases.Other r = None

-- how a call lies on the stack, if rules tell it
abbrev pub frame_of : FrameRules → Option Frame
frame_of r = framed_by r.base r

abbrev pub fact_of : Option Frame → Fact
fact_of (Some f) = Framed f
fact_of None = NoFrame

-- what a row of a function's frames tells
abbrev pub told_by : FrameRow → Told
told_by r = record { address = r.address; is_end = false; fact = fact_of (frame_of r.rules) }

abbrev pub with_rows : List FrameRow → List Told → List Told
with_rows rows told = told ++ map told_by rows

-- after the last instruction nothing is known
abbrev pub end_at : ℕ → Told
end_at address = record { address = address; is_end = true; fact = NoFrame }

-- with what a function's frames tell, if it has instructions, whose addresses have 64 bits
abbrev pub with_function : ℕ → ℕ → List FrameRow → List Told → List Told
with_function from size rows told =
    if nat_le (2 ^ 64) (from + size) || (size == 0) then told else with_rows rows told ++ end_at (from + size) ∷ []

-- with those of a function, if its frames are understood
abbrev pub with_frames : List Told → Result FramesOf Fault → List Told
with_frames told (Ok f) = with_function f.0 f.1 f.2 told
with_frames told (Err fault) = told

-- with those of an entry, if it is of a function
unfoldable pub with_unit : List ℕ → FrameUnit → List Told → List Told
with_unit section unit told = if unit.is_common then told else with_frames told (frames_of section unit)

-- with those of several, one after the other
abbrev pub with_units : List ℕ → List FrameUnit → List Told → List Told
with_units section [] told = told
with_units section (u ∷ us) told = with_units section us (with_unit section u told)

-- the entries of the section, up to the first one whose length is damaged
abbrev pub section_frames : List ℕ → Result (List Told) Fault
section_frames section = frame_units section >>= λ us. Ok (with_units section us [])
