-- Which variable a name is: an inner declaration hides an outer one (C17, section 6.2.1).
use Rattle.std.specs.Prelude.{◌≡◌, ℕ, ◌<◌, ◌≤◌, ◌+◌, Bool, true, false, List, bytes_eq, length, map, Option, Some, None, slice_get}
use Rattle.std.specs.Borrow.{Bor}
use Rattle.c_expressions.specs.declared.rows.VariableRow.{VariableRow}

-- the name at a place is this one
abbrev pub is_named : List ℕ → Option (Bor (List ℕ)) → Bool
is_named name (Some own) = bytes_eq own.now name
is_named name None = false

-- none of the names from a place on, before another place, is this one
abbrev pub HasNone : List (Bor (List ℕ)) → (name : List ℕ) → (from end : ℕ) → Type 0
HasNone names name from end = (k : ℕ) → from ≤ k → k < end → is_named name (slice_get names k) ≡ false

-- of so many names, the first ones, this one is the innermost that is the name: none after it is
pub record IsInnermost (names : List (Bor (List ℕ))) (name : List ℕ) (count place : ℕ) : Type 0 where
  pub below : place < count
  pub named : is_named name (slice_get names place) ≡ true
  pub hides : HasNone names name (place + 1) count

abbrev pub name_of : VariableRow → Bor (List ℕ)
name_of row = row.name

-- of some variables, this one is the innermost that has the name
pub record IsThere (rows : List VariableRow) (name : List ℕ) (row : VariableRow) : Type 0 where
  pub place : ℕ
  pub innermost : IsInnermost (map name_of rows) name (length rows) place
  pub row_is : slice_get rows place ≡ Some row

-- the innermost one, if one has the name
abbrev pub IsInnermostOf : List VariableRow → (name : List ℕ) → Option VariableRow → Type 0
IsInnermostOf rows name (Some row) = IsThere rows name row
IsInnermostOf rows name None = HasNone (map name_of rows) name 0 (length rows)

-- A name is the innermost variable in scope, and one of the program only if none in scope has it
pub data IsVariable (locals globals : List VariableRow) (name : List ℕ) : Option VariableRow → Type 0 where
  local : (row : VariableRow) → IsThere locals name row → IsVariable locals globals name (Some row)
  other : (found : Option VariableRow) → HasNone (map name_of locals) name 0 (length locals) → IsInnermostOf globals name found → IsVariable locals globals name found
