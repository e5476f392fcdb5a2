-- Lines of sources, by a table of rows: a row tells where the instructions of a line begin.
use Rattle.std.specs.Prelude.{◌≡◌, ◌<◌, ◌≤◌, ℕ, ◌&&◌, Bool, true, false, nat_eq, nat_le, List, length, slice_get, Option, None, Some}
use Rattle.xv_report.specs.declared.lines.LineRow.{LineRow}

-- a row of the program that begins at the address or before it
abbrev pub begins_before : (program address : ℕ) → LineRow → Bool
begins_before program address row = nat_eq row.program program && nat_le row.address address

-- The row at this place is such a row, and none of the first n begins nearer to the address
pub record IsNearestAt (n : ℕ) (rows : List LineRow) (program address place : ℕ) : Type 0 where
  pub row : LineRow
  pub there : slice_get rows place ≡ Some row
  pub before : begins_before program address row ≡ true
  pub nearest : (k : ℕ) (other : LineRow) → k < n → slice_get rows k ≡ Some other → begins_before program address other ≡ true → other.address ≤ row.address

-- of the first n rows the nearest; none if none is such a row
abbrev pub IsNearestBelow : (n : ℕ) → List LineRow → (program address : ℕ) → Option ℕ → Type 0
IsNearestBelow n rows program address None = (k : ℕ) (other : LineRow) → k < n → slice_get rows k ≡ Some other → begins_before program address other ≡ false
IsNearestBelow n rows program address (Some place) = IsNearestAt n rows program address place

-- of all rows
abbrev pub IsNearest : List LineRow → (program address : ℕ) → Option ℕ → Type 0
IsNearest rows program address place = IsNearestBelow (length rows) rows program address place
