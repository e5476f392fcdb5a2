-- The rows of functions and labels.
use Rattle.std.specs.Prelude.{ℕ, ◌==◌, Bool, if◌then◌else◌, List, [], ◌∷◌, ◌++◌, codes, decimal, Result, Ok}
use Rattle.std.specs.List.{concat}
use Rattle.line_tables.specs.declared.error.TableError.{TableError}
use Rattle.line_tables.specs.declared.names.Named.{Named}
use Rattle.line_tables.specs.Names.{Entries, size_at}
use Rattle.line_tables.specs.Texts.{◌>>=◌, name_in, with_row}

-- what stands before the name: what it is, its address and its bytes
abbrev pub words_of : ℕ → ℕ → Bool → List ℕ
words_of address size is_function =
    if is_function then concat (codes "function " ∷ decimal address ∷ codes " " ∷ decimal size ∷ codes " " ∷ [])
    else concat (codes "label " ∷ decimal address ∷ codes " " ∷ decimal size ∷ codes " " ∷ [])

abbrev pub with_sized : List ℕ → ℕ → ℕ → Named → List ℕ → Result (List ℕ) TableError
with_sized names address size n text =
    if size == 0 then Ok text
    else (name_in names n.name 33 >>= λ name. with_row (words_of address size n.is_function) name text)

-- with the row of a function or a label, if it has bytes; no byte of its name is a blank
unfoldable pub with_name : List ℕ → ℕ → Named → Entries → List ℕ → Result (List ℕ) TableError
with_name names address n after text = with_sized names address (size_at address n after) n text

-- with the rows of all, in the order of addresses
abbrev pub with_names : List ℕ → Entries → List ℕ → Result (List ℕ) TableError
with_names names [] text = Ok text
with_names names (e ∷ es) text = with_name names e.0 e.1 es text >>= λ longer. with_names names es longer
