-- From an address to its row, and from a line to its addresses.
use Rattle.std.specs.Prelude.{ℕ, Bool, true, false, not, ◌&&◌, ◌||◌, ◌==◌, nat_lt, nat_le, if◌then◌else◌, List, [], ◌∷◌, ◌++◌, Option, Some, None}
use Rattle.dwarf.specs.declared.row.Row.{Row}

-- A row tells of an address, with the row after it: the address lies between theirs, and no sequence ends there. The address
-- of the next row isn't in it.
abbrev pub covers : ℕ → Row → Row → Bool
covers address r next = not r.end_sequence && nat_le r.address address && nat_lt address next.address

-- the first of these rows that covers the address, if r is the first of them
abbrev pub row_from : ℕ → Row → List Row → Option Row
row_from address r [] = None
row_from address r (next ∷ rs) = if covers address r next then Some r else row_from address next rs

-- the first row that covers an address
abbrev pub row_at : ℕ → List Row → Option Row
row_at address [] = None
row_at address (r ∷ rs) = row_from address r rs

-- a row tells of instructions of a line of a file
abbrev pub is_of : ℕ → ℕ → Row → Bool
is_of file line r = (r.file == file) && (r.line == line) && not r.end_sequence

-- a row begins a statement of the line, and is the first that does in its run of rows of the line
abbrev pub begins : ℕ → ℕ → Bool → Row → Bool
begins file line told r = is_of file line r && r.is_statement && not told

-- the run that goes on after a row has told its address
abbrev pub told_after : ℕ → ℕ → Bool → Row → Bool
told_after file line told r = is_of file line r && (told || r.is_statement)

-- of each run of rows of the line, the address of the first that begins a statement; told: that of the run which goes on here
abbrev pub addresses_from : ℕ → ℕ → Bool → List Row → List ℕ
addresses_from file line told [] = []
addresses_from file line told (r ∷ rs) =
    (if begins file line told r then r.address ∷ [] else []) ++ addresses_from file line (told_after file line told r) rs

-- the addresses at which a line of a file begins
abbrev pub addresses : ℕ → ℕ → List Row → List ℕ
addresses file line rows = addresses_from file line false rows
