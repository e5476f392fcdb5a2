-- Worked lookups: which row covers an address, and at which addresses a line begins.
use Rattle.dwarf.proofs.Prelude.{[], ℕ, ◌∷◌, ◌≡◌, addresses, false, first, List, None, refl, Row, row_at, Some, true}

abbrev at : ℕ → ℕ → Row
at address line = record (first true) { address = address; line = line }

abbrev passing : ℕ → ℕ → Row
passing address line = record (first false) { address = address; line = line }

abbrev end : ℕ → Row
end address = record (first true) { address = address; line = 9; end_sequence = true }

-- two sequences: lines 3, 3 (no statement), 4, 3 and 4 again; then line 4 once more, which is no statement at first
abbrev rows : List Row
rows = at 0x10 3 ∷ passing 0x14 3 ∷ at 0x18 4 ∷ at 0x1C 3 ∷ at 0x20 3 ∷ end 0x24 ∷ passing 0x40 4 ∷ at 0x44 4 ∷ end 0x48 ∷ []

first_byte : row_at 0x18 rows ≡ Some (at 0x18 4)
first_byte = refl

last_byte : row_at 0x1B rows ≡ Some (at 0x18 4)
last_byte = refl

next_byte : row_at 0x1C rows ≡ Some (at 0x1C 3)
next_byte = refl

before_all : row_at 0x0F rows ≡ None
before_all = refl

-- a sequence ends before the address of its last row, and what lies between two sequences has no line
last_of_sequence : row_at 0x23 rows ≡ Some (at 0x20 3)
last_of_sequence = refl

end_of_sequence : row_at 0x24 rows ≡ None
end_of_sequence = refl

second_sequence : row_at 0x47 rows ≡ Some (at 0x44 4)
second_sequence = refl

after_all : row_at 0x48 rows ≡ None
after_all = refl

-- of two rows with one address the last one covers it
same_address : row_at 0x10 (at 0x10 3 ∷ at 0x10 4 ∷ end 0x14 ∷ []) ≡ Some (at 0x10 4)
same_address = refl

no_rows : row_at 0 [] ≡ None
no_rows = refl

-- each run of rows of a line has one address
line_3 : addresses 1 3 rows ≡ 0x10 ∷ 0x1C ∷ []
line_3 = refl

-- a run whose first row begins no statement
line_4 : addresses 1 4 rows ≡ 0x18 ∷ 0x44 ∷ []
line_4 = refl

-- the end of a sequence is no line, though its row has one
line_9 : addresses 1 9 rows ≡ []
line_9 = refl

other_file : addresses 2 3 rows ≡ []
other_file = refl

-- a row that begins no statement belongs to the run
still_one_run : addresses 1 3 (at 0x10 3 ∷ passing 0x14 3 ∷ at 0x18 3 ∷ end 0x1C ∷ []) ≡ 0x10 ∷ []
still_one_run = refl

-- a sequence's end ends a run
two_runs : addresses 1 3 (at 0x10 3 ∷ end 0x14 ∷ at 0x20 3 ∷ end 0x24 ∷ []) ≡ 0x10 ∷ 0x20 ∷ []
two_runs = refl
