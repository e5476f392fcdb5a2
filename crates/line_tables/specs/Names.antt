-- The functions and labels of a program (ELF-64 Object File Format, "Symbol Table").
use Rattle.std.specs.Prelude.{ℕ, ◌-◌, ◌*◌, ◌/◌, ◌==◌, Bool, true, false, not, ◌||◌, if◌then◌else◌, List, [], ◌∷◌, length, map, slice_get, Option, Some, None}
use Rattle.std.specs.List.{range_with_len}
use Rattle.std.specs.Option.{option_or}
use Rattle.elf_symbols.specs.declared.symbol.Symbol.{Symbol}
use Rattle.elf_symbols.specs.Symbols.{symbol_at, is_function, is_untyped, is_local}
use Rattle.line_tables.specs.Entries.{entries_of}
use Rattle.line_tables.specs.declared.names.Named.{Named}

-- a function that has bytes
abbrev pub function_named : Symbol → Option Named
function_named s = if s.size == 0 then None else Some (record { is_function = true; size = s.size; name = s.name })

-- a label that other files may say, in section 1: among the program's instructions
abbrev pub label_named : Symbol → Option Named
label_named s = if not (is_untyped s) || is_local s || not (s.section == 1) then None else Some (record { is_function = false; size = 0; name = s.name })

abbrev pub named_by : Symbol → Option Named
named_by s = if is_function s then function_named s else label_named s

-- A map from addresses to functions and labels, seen as its entries in the order of addresses.

abbrev pub Entries : Type 0
Entries = List (ℕ × Named)

-- the name is one of those that are wanted: of functions, or of labels
abbrev pub if_wanted : (functions : Bool) → Option Named → Option Named
if_wanted functions None = None
if_wanted functions (Some n) = if (if n.is_function then functions else not functions) then Some n else None

abbrev pub named_at : (functions : Bool) → (address : ℕ) → Symbol → Option Named
named_at functions address s = if s.value == address then if_wanted functions (named_by s) else None

-- the first of them at an address
abbrev pub first_named : (functions : Bool) → (address : ℕ) → List Symbol → Option Named
first_named functions address [] = None
first_named functions address (s ∷ ss) = option_or (named_at functions address s) (first_named functions address ss)

-- what counts at an address: the first function there, or else the first label
abbrev pub name_at : List Symbol → (address : ℕ) → Option Named
name_at symbols address = option_or (first_named true address symbols) (first_named false address symbols)

-- the symbols of a table, of 24 bytes each
abbrev pub symbols_in : (table : List ℕ) → List Symbol
symbols_in table = map (λ place. symbol_at table (24 * place)) (range_with_len 0 (length table / 24))

-- what counts at each address that a symbol has
unfoldable pub names_of : (table : List ℕ) → Entries
names_of table = entries_of (name_at (symbols_in table)) (map (λ s. s.value) (symbols_in table))

abbrev pub size_up_to : ℕ → Option (ℕ × Named) → ℕ
size_up_to address (Some next) = next.0 - address
size_up_to address None = 0

-- a label goes up to the next function or label; after the last one how far isn't known
abbrev pub size_at : ℕ → Named → Entries → ℕ
size_at address n after = if n.is_function then n.size else size_up_to address (slice_get after 0)
