-- The names of a program are those that have an address.
use Rattle.std.specs.Prelude.{◌≡◌, ℕ, ◌<◌, List, Some, true, is_some}
use Rattle.xv_report.specs.declared.sources.ProgramSource.{ProgramSource}
use Rattle.xv_report.specs.Places.{address_named, name_count, nth_name}

-- the name at a place has an address
abbrev pub HasAddress : Type 0
HasAddress = (source : ProgramSource) (place : ℕ) (name : List ℕ) → nth_name source place ≡ Some name → is_some (address_named source name) ≡ true

-- a name that has an address stands at a place below the count
abbrev pub IsCounted : Type 0
IsCounted = (source : ProgramSource) (name : List ℕ) → is_some (address_named source name) ≡ true
    → (place : ℕ) × (place < name_count source) × (nth_name source place ≡ Some name)
