-- A text that is written row by row.
use Rattle.std.specs.Prelude.{◌≡◌, ℕ, ◌==◌, Bool, not, ◌&&◌, nat_lt, nat_le, if◌then◌else◌, List, [], ◌∷◌, ◌++◌, length, Result, Ok, Err}
use Rattle.std.specs.Global.{Vec}
use Rattle.std.specs.List.{list_all}
use Rattle.dwarf.specs.declared.fault.Fault.{Fault}
use Rattle.dwarf.specs.Texts.{name_at}
use Rattle.line_tables.specs.declared.error.TableError.{TableError}
use Rattle.line_tables.specs.declared.error.TableError.TheVariants.{Memory, Name, Large, Lines, Frames}

-- what is made first, and then what is made of that: the first fault counts
infixl 10 ◌>>=◌
abbrev pub ◌>>=◌ : {A B : Type 0} → Result A TableError → (A → Result B TableError) → Result B TableError
(Ok x) >>= f = f x
(Err e) >>= f = Err e

-- a byte is shown if it isn't below the least one, and doesn't delete
abbrev pub is_shown : ℕ → ℕ → Bool
is_shown least b = nat_le least b && not (b == 127)

abbrev pub are_shown : ℕ → List ℕ → Bool
are_shown least bytes = list_all (is_shown least) bytes

-- a name has bytes, and all of them are shown
abbrev pub is_name : ℕ → List ℕ → Bool
is_name least bytes = not (length bytes == 0) && are_shown least bytes

abbrev pub or_no_name : ℕ → ℕ → Result (List ℕ) Fault → Result (List ℕ) TableError
or_no_name place least (Ok name) = if is_name least name then Ok name else Err (Name place)
or_no_name place least (Err f) = Err (Name place)

-- the name at a place of a section, up to the zero byte
abbrev pub name_in : List ℕ → ℕ → ℕ → Result (List ℕ) TableError
name_in section place least = or_no_name place least (name_at section place)

-- a text has at most 16 MiB
abbrev pub MOST_BYTES : ℕ
MOST_BYTES = 16777216

abbrev pub of_size : List ℕ → Result (List ℕ) TableError
of_size text = if nat_lt MOST_BYTES (length text) then Err Large else Ok text

-- with a row: its words, a name after them, and the byte that ends a line
abbrev pub with_row : List ℕ → List ℕ → List ℕ → Result (List ℕ) TableError
with_row words name text = of_size (text ++ words ++ name ++ 10 ∷ [])

-- What functions that take memory of the host returned is what reading and writing give.

abbrev pub Fails : {Y : Type 0} → TableError → Result Y TableError → Type 0
Fails Memory read = Unit {0}
Fails (Lines f) read = read ≡ Err (Lines f)
Fails (Frames f) read = read ≡ Err (Frames f)
Fails (Name place) read = read ≡ Err (Name place)
Fails Large read = read ≡ Err Large

abbrev pub IsMade : {X : Type 0} → Result (Vec X) TableError → Result (List X) TableError → Type 0
IsMade (Ok v) read = read ≡ Ok v.items
IsMade (Err e) read = Fails e read

-- a name, by what its reference points to
abbrev pub IsName : {X : Type 0} → (X → List ℕ) → Result X TableError → Result (List ℕ) TableError → Type 0
IsName view (Ok name) read = read ≡ Ok (view name)
IsName view (Err e) read = read ≡ Err e

-- a text, as the function left it
abbrev pub IsText : Result (Unit {0}) TableError → List ℕ → Result (List ℕ) TableError → Type 0
IsText (Ok x) text read = read ≡ Ok text
IsText (Err e) text read = Fails e read
