-- What the code's values stand for, and what a function that may be refused returns.
use Rattle.std.specs.Prelude.{◌≡◌, ℕ, List, [], ◌∷◌, ◌++◌, map, replicate, Option, Some, None, Result, Ok, Err, if◌then◌else◌}
use Rattle.std.specs.Option.{option_map}
use Rattle.std.specs.Str.{bytes_eq}
use Rattle.std.specs.BTreeMap.{get_by}
use Rattle.std.specs.Ordering.{nat_cmp}
use Rattle.std.specs.Cmp.Lexicographic.{slice_cmp}
use Rattle.xk_base.specs.Words.{le_bytes}
use Rattle.uasm_core.specs.declared.error.AsmError.{AsmError}
use Rattle.uasm_core.specs.declared.error.AsmError.TheVariants as error
use Rattle.uasm_core.specs.declared.error.AsmErrorKind.{AsmErrorKind}
use Rattle.uasm_core.specs.declared.error.AsmErrorKind.TheVariants.{BadOperand}
use Rattle.uasm_core.specs.declared.error.Refusal.{Refusal}
use Rattle.uasm_core.specs.declared.error.Refusal.TheVariants.{NoMemory, Kind}
use Rattle.uasm_core.specs.declared.labels.LabelPlaces.{LabelPlaces}
use Rattle.uasm_core.specs.declared.parts.Parts as code_parts
use Rattle.uasm_core.specs.declared.placing.Placed as code_placed
use Rattle.uasm_core.specs.declared.scan.Quote.{Quote}
use Rattle.uasm_core.specs.declared.spelling.Output as code_output
use Rattle.uasm_core.specs.declared.statement.Statement as code_statement
use Rattle.uasm_core.specs.declared.statement.Statement.TheVariants as variant
use Rattle.uasm_core.specs.declared.statement.Datum as code_datum
use Rattle.uasm_core.specs.declared.statement.Datum.TheVariants as datum_variant
use Rattle.uasm_core.specs.declared.statement.Given as code_given
use Rattle.uasm_core.specs.declared.statement.Given.TheVariants as given_variant
use Rattle.uasm_core.specs.Line as line
use Rattle.uasm_core.specs.Line.{text_from}
use Rattle.uasm_core.specs.declared.place.Place.{Place}
use Rattle.uasm_core.specs.Statement as meant_line
use Rattle.uasm_core.specs.Written as meant
use Rattle.uasm_core.specs.Written.{Fault, SectionBytes}

-- What is returned.

-- what a function returned, seen by a view, is what is meant
abbrev pub Gives : {X Y E : Type 0} → (X → Y) → Result X E → Result Y E → Type 0
Gives view (Ok x) meant = meant ≡ Ok (view x)
Gives view (Err e) meant = meant ≡ Err e

-- the same, where memory may also have run out
abbrev pub Answers : {X Y : Type 0} → (X → Y) → Result X Refusal → Result Y AsmErrorKind → Type 0
Answers view (Ok x) meant = meant ≡ Ok (view x)
Answers view (Err NoMemory) meant = Unit {0}
Answers view (Err (Kind k)) meant = meant ≡ Err k

-- an error is the first fault, unless memory ran out
abbrev pub Fails : {Y : Type 0} → AsmError → Result Y Fault → Type 0
Fails error.Memory r = Unit {0}
Fails (error.At line kind) r = r ≡ Err (line, kind)

-- what was returned, seen by a view, is what is meant, unless memory ran out
abbrev pub Stands : {X Y : Type 0} → (X → Y) → Result X AsmError → Result Y Fault → Type 0
Stands view (Ok x) r = r ≡ Ok (view x)
Stands view (Err e) r = Fails e r

-- the error of a line that was refused
abbrev pub error_at : ℕ → Refusal → AsmError
error_at n NoMemory = error.Memory
error_at n (Kind k) = error.At n k

-- Parts of a line, and statements, without where their names lie in memory.

-- the parts of a line
abbrev pub parts : code_parts.Parts → line.Parts
parts p = record { label = option_map (λ b. b.now) p.label; word = p.word.now; operands = map (λ b. b.now) p.operands.items }

-- a value as it is written
abbrev pub given : code_given.Given → meant_line.Given
given (given_variant.Number n) = meant_line.GivenNumber n
given (given_variant.Label l) = meant_line.GivenLabel l

-- a value
abbrev pub datum : code_datum.Datum → meant_line.Datum
datum (datum_variant.Byte n) = meant_line.Known (le_bytes 1 n)
datum (datum_variant.Word n) = meant_line.Known (le_bytes 4 n)
datum (datum_variant.Dword n) = meant_line.Known (le_bytes 8 n)
datum (datum_variant.Address l) = meant_line.Address l

-- what a line asks for
abbrev pub statement : code_statement.Statement → meant_line.Statement
statement variant.Empty = meant_line.Empty
statement (variant.Switch to) = meant_line.Switch to
statement (variant.One i) = meant_line.Code (i ∷ [])
statement (variant.Two i j) = meant_line.Code (i ∷ j ∷ [])
statement (variant.BranchTo op s t l) = meant_line.BranchTo op s t l
statement (variant.JumpTo d l) = meant_line.JumpTo d l
statement (variant.LoadAddress d l) = meant_line.LoadAddress d l
statement (variant.Values v) = meant_line.Bytes (map datum v.items)
statement (variant.Text t) = meant_line.Bytes (meant_line.Known t.items ∷ [])
statement (variant.Space n) = meant_line.Bytes (meant_line.Known (replicate n 0) ∷ [])

-- a line that was read
abbrev pub seen : code_placed.Placed → meant.Placed
seen p = record { line = p.line; label = option_map (λ b. b.now) p.label; place = p.place; statement = statement p.statement }

-- what was spelled
abbrev pub bytes_in : code_output.Output → SectionBytes
bytes_in o = record { in_text = o.text.items; in_data = o.data_bytes.items }

-- Labels.

-- the map of labels as a function from names to places
abbrev pub places_of : LabelPlaces → List ℕ → Option Place
places_of m l = get_by (λ k. slice_cmp nat_cmp l k.now) m.places

-- no label stands anywhere
abbrev pub no_label : List ℕ → Option Place
no_label l = None

-- one label more
abbrev pub with_label : List ℕ → Place → (List ℕ → Option Place) → List ℕ → Option Place
with_label m at f l = if bytes_eq m l then Some at else f l

-- a line's label more, if it has one
abbrev pub with_label_of : Option (List ℕ) → Place → (List ℕ → Option Place) → List ℕ → Option Place
with_label_of (Some m) at f l = with_label m at f l
with_label_of None at f l = f l

-- Texts.

-- the text with these bytes in front
abbrev pub text_behind : List ℕ → Option (List ℕ) → Option (List ℕ)
text_behind bs text = option_map (λ t. bs ++ t) text

-- what was found before one byte and after it leads to the same text, where bs follow
abbrev pub Reads : (old new : List ℕ) → Result Quote Refusal → Option (List ℕ) → List ℕ → Type 0
Reads old new (Ok q) text bs = text_behind new (text_from q bs) ≡ text_behind old text
Reads old new (Err NoMemory) text bs = Unit {0}
Reads old new (Err (Kind k)) text bs = (k ≡ BadOperand) × (text ≡ None)
