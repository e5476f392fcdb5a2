-- Worked cases of functions and labels.
use Rattle.std.proofs.Common.{◌≡◌, ℕ, List, [], ◌∷◌, ◌++◌, true, false, Some, None, refl}
use Rattle.elf_symbols.specs.declared.symbol.Symbol.{Symbol}
use Rattle.elf_symbols.specs.Symbols.{symbol_at}
use Rattle.line_tables.specs.declared.names.Named.{Named}
use Rattle.line_tables.specs.Names.{named_by, names_of, size_at}

abbrev symbol : ℕ → ℕ → ℕ → Symbol
symbol info section size = record { name = 5; info = info; section = section; value = 16; size = size }

abbrev function : ℕ → ℕ → Named
function size name = record { is_function = true; size = size; name = name }

abbrev label : ℕ → Named
label name = record { is_function = false; size = 0; name = name }

-- a function (type 2) of 12 bytes, global or local, in any section; not one without bytes
pub global_function : named_by (symbol 0x12 3 12) ≡ Some (function 12 5)
global_function = refl

pub local_function : named_by (symbol 0x02 1 12) ≡ Some (function 12 5)
local_function = refl

pub empty_function : named_by (symbol 0x12 1 0) ≡ None
empty_function = refl

-- a global or weak name without a type in section 1 is a label; a local one is none, nor is one of another section, nor data
pub global_label : named_by (symbol 0x10 1 0) ≡ Some (label 5)
global_label = refl

pub weak_label : named_by (symbol 0x20 1 7) ≡ Some (label 5)
weak_label = refl

pub local_label : named_by (symbol 0x00 1 0) ≡ None
local_label = refl

pub absolute_label : named_by (symbol 0x10 0xFFF1 0) ≡ None
absolute_label = refl

pub data_object : named_by (symbol 0x11 1 8) ≡ None
data_object = refl

-- the bytes of a symbol: its name, its type and binding, its section, its address, its size
abbrev bytes : ℕ → ℕ → ℕ → ℕ → List ℕ
bytes name info address size =
    (name ∷ 0 ∷ 0 ∷ 0 ∷ info ∷ 0 ∷ 1 ∷ 0 ∷ []) ++ (address ∷ 0 ∷ 0 ∷ 0 ∷ 0 ∷ 0 ∷ 0 ∷ 0 ∷ []) ++ (size ∷ 0 ∷ 0 ∷ 0 ∷ 0 ∷ 0 ∷ 0 ∷ 0 ∷ [])

-- in the order of addresses; at 8 the first function counts, not the label before it and not the function after it
pub in_order : names_of (bytes 1 0x12 20 4 ++ bytes 2 0x10 8 0 ++ bytes 3 0x12 8 4 ++ bytes 4 0x12 8 12 ++ bytes 5 0x10 4 0 ++ bytes 6 0x10 4 0)
    ≡ (4, label 5) ∷ (8, function 4 3) ∷ (20, function 4 1) ∷ []
unfolding names_of symbol_at
in_order = refl

-- a label goes up to what comes next, a function has its own bytes
pub label_size : size_at 4 (label 5) ((20, function 4 1) ∷ []) ≡ 16
label_size = refl

pub last_label : size_at 4 (label 5) [] ≡ 0
last_label = refl

pub function_size : size_at 4 (function 12 5) ((20, function 4 1) ∷ []) ≡ 12
function_size = refl
