-- The rows of lines and frames.
use Rattle.std.specs.Prelude.{ℕ, Bool, false, if◌then◌else◌, List, [], ◌∷◌, ◌++◌, codes, decimal, Option, Some, None, Result, Ok}
use Rattle.dwarf.specs.declared.entry.Text.{Text}
use Rattle.dwarf.specs.declared.entry.Text.TheVariants.{Here, LineStrings, Strings}
use Rattle.line_tables.specs.declared.error.TableError.{TableError}
use Rattle.line_tables.specs.declared.fact.FrameBase.{FrameBase}
use Rattle.line_tables.specs.declared.fact.FrameBase.TheVariants.{Sp, S0}
use Rattle.line_tables.specs.declared.fact.Frame.{Frame}
use Rattle.line_tables.specs.declared.fact.Fact.{Fact}
use Rattle.line_tables.specs.declared.fact.Fact.TheVariants.{Line, NoLine, Framed, NoFrame}
use Rattle.line_tables.specs.Facts.{Entries, is_same_text}
use Rattle.line_tables.specs.Texts.{◌>>=◌, name_in, with_row}

-- the name of a source, by the sections in which names may stand: .debug_line, .debug_line_str, .debug_str
abbrev pub source_name : List ℕ → List ℕ → List ℕ → Text → Result (List ℕ) TableError
source_name lines line_strings strings (Here place) = name_in lines place 32
source_name lines line_strings strings (LineStrings place) = name_in line_strings place 32
source_name lines line_strings strings (Strings place) = name_in strings place 32

-- How names of sources are read, which the words below are given.
abbrev pub Reads : Type 0
Reads = Text → Result (List ℕ) TableError

-- the last row of a source names this one
abbrev pub is_told : Option Text → Text → Bool
is_told (Some last) file = is_same_text last file
is_told None file = false

-- with the row of a source, if the last one is of another
unfoldable pub with_source : Reads → Option Text → Text → List ℕ → Result (List ℕ) TableError
with_source reads told file text =
    if is_told told file then Ok text else (reads file >>= λ name. with_row (codes "file ") name text)

abbrev pub base_name : FrameBase → List ℕ
base_name Sp = codes "sp"
base_name S0 = codes "s0"

-- texts and a last one, one after the other
abbrev pub joined : List (List ℕ) → List ℕ → List ℕ
joined [] last = last
joined (text ∷ texts) last = text ++ joined texts last

abbrev pub frame_row : ℕ → Frame → List ℕ
frame_row address f =
    joined (codes "frame " ∷ decimal address ∷ codes " " ∷ base_name f.base ∷ codes " " ∷ decimal f.size ∷ codes " " ∷ decimal f.ra ∷ codes " " ∷ []) (decimal f.s0)

-- the row of a fact: an address and a line, or a frame
abbrev pub fact_row : ℕ → Fact → List ℕ
fact_row address (Line s) = joined (decimal address ∷ codes " " ∷ []) (decimal s.line)
fact_row address NoLine = joined (decimal address ∷ []) (codes " 0")
fact_row address (Framed f) = frame_row address f
fact_row address NoFrame = joined (codes "frame " ∷ decimal address ∷ []) (codes " - 0 0 0")

-- with the row of a fact's source, if it is of a line
abbrev pub with_source_of : Reads → Option Text → Fact → List ℕ → Result (List ℕ) TableError
with_source_of reads told (Line s) text = with_source reads told s.file text
with_source_of reads told _ text = Ok text

-- with the rows of a fact
unfoldable pub with_fact : Reads → Option Text → ℕ → Fact → List ℕ → Result (List ℕ) TableError
with_fact reads told address fact text = with_source_of reads told fact text >>= λ longer. with_row (fact_row address fact) [] longer

-- the source that the last row of a source names then
abbrev pub told_after : Option Text → Fact → Option Text
told_after told (Line s) = Some s.file
told_after told _ = told

-- with the rows of all, in the order of addresses
abbrev pub with_facts : Reads → Option Text → Entries → List ℕ → Result (List ℕ) TableError
with_facts reads told [] text = Ok text
with_facts reads told (e ∷ es) text =
    with_fact reads told e.0 e.1 text >>= λ longer. with_facts reads (told_after told e.1) es longer
