-- The names that are told are those that have an address.
use Rattle.std.specs.Prelude.{◌≡◌, ℕ, ◌<◌, List, Some, true, is_some}
use Rattle.elf_symbols.specs.Symbols.{address_of, symbol_count, symbol_name}

-- a name that a symbol has is one that has an address
abbrev pub HasAddress : Type 0
HasAddress = (file : List ℕ) (i : ℕ) (name : List ℕ) → symbol_name file i ≡ Some name → is_some (address_of file name) ≡ true

-- a name that has an address is that of a symbol below the count
abbrev pub IsCounted : Type 0
IsCounted = (file name : List ℕ) → is_some (address_of file name) ≡ true → (i : ℕ) × (i < symbol_count file) × (symbol_name file i ≡ Some name)
