-- What is known from an address on, and what counts of the rows of a table.
use Rattle.std.specs.Prelude.{ℕ, Bool, true, false, not, ◌&&◌, ◌==◌, if◌then◌else◌, List, [], ◌∷◌, ◌++◌, map, Option, Some, None}
use Rattle.std.specs.Option.{option_or}
use Rattle.dwarf.specs.declared.entry.Text.{Text}
use Rattle.dwarf.specs.declared.entry.Text.TheVariants.{Here, LineStrings, Strings}
use Rattle.line_tables.specs.Entries.{entries_of}
use Rattle.line_tables.specs.declared.fact.FrameBase.{FrameBase}
use Rattle.line_tables.specs.declared.fact.FrameBase.TheVariants.{Sp, S0}
use Rattle.line_tables.specs.declared.fact.Frame.{Frame}
use Rattle.line_tables.specs.declared.fact.Fact.{Fact}
use Rattle.line_tables.specs.declared.fact.Fact.TheVariants.{Line, NoLine, Framed, NoFrame}
use Rattle.line_tables.specs.declared.fact.Told.{Told}

-- names that stand at the same place
abbrev pub is_same_text : Text → Text → Bool
is_same_text (Here a) (Here b) = a == b
is_same_text (LineStrings a) (LineStrings b) = a == b
is_same_text (Strings a) (Strings b) = a == b
is_same_text _ _ = false

abbrev pub is_same_base : FrameBase → FrameBase → Bool
is_same_base Sp Sp = true
is_same_base S0 S0 = true
is_same_base _ _ = false

abbrev pub is_same_frame : Frame → Frame → Bool
is_same_frame f g = is_same_base f.base g.base && (f.size == g.size) && (f.ra == g.ra) && (f.s0 == g.s0)

-- facts that tell the same
abbrev pub is_same_fact : Fact → Fact → Bool
is_same_fact (Line a) (Line b) = is_same_text a.file b.file && (a.line == b.line)
is_same_fact NoLine NoLine = true
is_same_fact (Framed f) (Framed g) = is_same_frame f g
is_same_fact NoFrame NoFrame = true
is_same_fact _ _ = false

-- What counts of the rows of a table: a map from addresses to facts, seen as its entries in the order of addresses.

abbrev pub Entries : Type 0
Entries = List (ℕ × Fact)

-- the row is one of those that are wanted: of the ends, or of all others
abbrev pub is_wanted : Bool → Told → Bool
is_wanted ends t = if t.is_end then ends else not ends

abbrev pub fact_if : (ends : Bool) → (address : ℕ) → Told → Option Fact
fact_if ends address t = if is_wanted ends t && (t.address == address) then Some t.fact else None

-- what the last of those that are wanted tells at an address: a later one counts before an earlier one
abbrev pub last_fact : (ends : Bool) → (address : ℕ) → List Told → Option Fact
last_fact ends address [] = None
last_fact ends address (t ∷ ts) = option_or (last_fact ends address ts) (fact_if ends address t)

-- what counts at an address: the last row there that is no end, or else the last end
abbrev pub fact_at : List Told → (address : ℕ) → Option Fact
fact_at rows address = option_or (last_fact false address rows) (last_fact true address rows)

-- what counts at each address that a row has
abbrev pub by_address : List Told → Entries
by_address rows = entries_of (fact_at rows) (map (λ t. t.address) rows)

-- a fact, if the last one tells something else
abbrev pub change_from : Fact → ℕ → Fact → Entries
change_from last address fact = if is_same_fact last fact then [] else (address, fact) ∷ []

-- those that tell something else than the one before; before the first this is known
abbrev pub changes : Fact → Entries → Entries
changes last [] = []
changes last (e ∷ es) = change_from last e.0 e.1 ++ changes e.1 es

-- what the rows of a table tell
abbrev pub facts_of : Fact → List Told → Entries
facts_of known rows = changes known (by_address rows)
