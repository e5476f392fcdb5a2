-- Where the lines and labels of a source stand in its program.
use Rattle.std.specs.Prelude.{ℕ, ◌&&◌, nat_lt, nat_le, if◌then◌else◌, List, [], ◌∷◌, Option, None, Some, Result, Ok, map}
use Rattle.std.specs.List.{flat_map}
use Rattle.std.specs.Str.Lines.{lines}
use Rattle.uasm_core.specs.declared.place.Place.{Place}
use Rattle.uasm_core.specs.declared.source_lines.CodeLine.{CodeLine}
use Rattle.uasm_core.specs.declared.source_lines.LabelAddress.{LabelAddress}
use Rattle.uasm_core.specs.declared.source_lines.SourceLines.{SourceLines}
use Rattle.uasm_core.specs.Places.{start, address}
use Rattle.uasm_core.specs.Written.{Placed, Fault, ◌>>=◌, all_placed, behind, end_of}

-- a line that goes from one place to another makes the text between them; nothing where it makes no text
abbrev pub code_between : ℕ → (from to : Place) → List CodeLine
code_between n from to = if nat_lt from.text_len to.text_len then record { line = n; start = from.text_len; end = to.text_len } ∷ [] else []

-- the text that a line makes: from its place to that behind its statement
abbrev pub code_of : Placed → List CodeLine
code_of p = code_between p.line p.place (behind p.statement p.place)

-- a label with its address
abbrev pub Label : Type 0
Label = List ℕ × ℕ

-- a label at an address, if there is one
abbrev pub label_at : Option (List ℕ) → ℕ → List Label
label_at (Some name) a = (name, a) ∷ []
label_at None a = []

-- the label of a line, with the address of its place
abbrev pub label_of : ℕ → Placed → List Label
label_of text_len p = label_at p.label (address text_len p.place)

-- the labels of lines in a program with that much text
abbrev pub labels_of : ℕ → List Placed → List Label
labels_of text_len ps = flat_map (label_of text_len) ps

-- The table of a source: each line that makes text, with the addresses of this text, and each label, with its address.
pub record LineTable : Type 0 where
  pub code : List CodeLine
  pub labels : List Label

-- the table of lines with their places
abbrev pub table_of : List Placed → LineTable
table_of ps = record { code = flat_map code_of ps; labels = labels_of (end_of ps start).text_len ps }

-- the table of a source, if its lines can be read
abbrev pub line_table : List ℕ → Result LineTable Fault
line_table source = all_placed (lines source) >>= λ ps. Ok (table_of ps)

-- What the code's values stand for.

-- a label
abbrev pub label_seen : LabelAddress → Label
label_seen l = (l.name.items, l.address)

-- a table
abbrev pub table_seen : SourceLines → LineTable
table_seen s = record { code = s.code.items; labels = map label_seen s.labels.items }

-- What a table tells of an address.

-- the line that makes the instruction there
abbrev pub line_in : List CodeLine → ℕ → Option ℕ
line_in [] a = None
line_in (r ∷ rs) a = if nat_le r.start a && nat_lt a r.end then Some r.line else line_in rs a

-- a label, if it stands at the address or before it
abbrev pub if_before : ℕ → LabelAddress → Option LabelAddress
if_before a l = if nat_le l.address a then Some l else None

-- the first if there is one, and else the other
abbrev pub or_else : {T : Type 0} → Option T → Option T → Option T
or_else (Some x) other = Some x
or_else None other = other

-- the last label that stands at the address or before it
abbrev pub label_before : ℕ → List LabelAddress → Option LabelAddress
label_before a [] = None
label_before a (l ∷ ls) = or_else (label_before a ls) (if_before a l)
