-- Worked symbols: which addresses a symbol has, where a name ends, and which symbols have one.
use Rattle.std.proofs.Common.{◌≡◌, ℕ, List, true, false, Some, None, [], ◌∷◌, codes, ◌++◌, refl}
use Rattle.elf_symbols.specs.declared.section.Section.{Section}
use Rattle.elf_symbols.specs.declared.symbol.Symbol.{Symbol}
use Rattle.elf_symbols.specs.Symbols.{covers, has_name, name_in, placed_name}

-- a symbol with this type and binding, at 0x10 with 32 bytes
abbrev at_16 : ℕ → Symbol
at_16 info = record { name = 1; info = info; section = 1; value = 0x10; size = 0x20 }

-- a function, global (binding 1) or local (0): its first byte and its last, and those beside them
first_byte : covers 0x10 (at_16 0x12) ≡ true
first_byte = refl

last_byte : covers 0x2F (at_16 0x12) ≡ true
last_byte = refl

byte_before : covers 0x0F (at_16 0x12) ≡ false
byte_before = refl

byte_behind : covers 0x30 (at_16 0x12) ≡ false
byte_behind = refl

local_function : covers 0x10 (at_16 0x02) ≡ true
local_function = refl

-- no object (type 1), and nothing without a type
no_object : covers 0x10 (at_16 0x11) ≡ false
no_object = refl

no_type : covers 0x10 (at_16 0x10) ≡ false
no_type = refl

-- a function of no byte has no address
no_bytes : covers 0x10 (record { name = 1; info = 0x12; section = 1; value = 0x10; size = 0 }) ≡ false
no_bytes = refl

-- a name ends at its first zero byte, may be empty, and must end
name_ends : name_in (codes "main" ++ 0 ∷ codes "data" ++ 0 ∷ []) ≡ Some (codes "main")
name_ends = refl

empty_name : name_in (0 ∷ codes "main") ≡ Some []
empty_name = refl

no_end : name_in (codes "main") ≡ None
no_end = refl

no_name : name_in [] ≡ None
no_name = refl

-- a name is the whole of it
whole_name : has_name (codes "main") (Some (codes "main")) ≡ true
whole_name = refl

begun_name : has_name (codes "main") (Some (codes "main2")) ≡ false
begun_name = refl

unnamed : has_name (codes "main") None ≡ false
unnamed = refl

-- a function, data and what has no type have names; a section (type 3) and a source's file (type 4) have none
abbrev names : List ℕ
names = 0 ∷ codes "main" ++ 0 ∷ []

abbrev in_names : Section
in_names = record { name = 0; kind = 3; flags = 0; off = 0; size = 6; link = 0 }

function_has_name : placed_name names in_names (at_16 0x12) ≡ Some (codes "main")
function_has_name = refl

object_has_name : placed_name names in_names (at_16 0x11) ≡ Some (codes "main")
object_has_name = refl

untyped_has_name : placed_name names in_names (at_16 0x10) ≡ Some (codes "main")
untyped_has_name = refl

section_has_none : placed_name names in_names (at_16 0x03) ≡ None
section_has_none = refl

file_has_none : placed_name names in_names (at_16 0x04) ≡ None
file_has_none = refl
