-- Where the caller's part of the stack begins (DWARF 5, section 6.4.1).
use Rattle.std.specs.Prelude.{ℕ, ℤ, Option, Some, None}
use Rattle.dwarf.specs.declared.frame.Base.{Base}
use Rattle.dwarf.specs.declared.frame.Base.TheVariants as bases
use Rattle.dwarf.specs.declared.frame.FrameRules.{FrameRules}
use Rattle.debug_info.specs.Numbers.{address_from}

-- so far from what a register holds, if that is known
abbrev pub from_held : Option ℕ → (distance : ℤ) → Option ℕ
from_held (Some held) distance = Some (address_from held distance)
from_held None distance = None

abbrev pub base_of : (registers : ℕ → Option ℕ) → Base → Option ℕ
base_of registers (bases.Register register offset) = from_held (registers register) offset
base_of registers bases.Unset = None
base_of registers bases.Other = None

-- by the rules that hold at the place, if there are some
abbrev pub base_by : (registers : ℕ → Option ℕ) → Option FrameRules → Option ℕ
base_by registers (Some rules) = base_of registers rules.base
base_by registers None = None
