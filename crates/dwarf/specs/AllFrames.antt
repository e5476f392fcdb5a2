-- The frames of all functions of a section, and the rules that hold at an address (DWARF 5, section 6.4.1).
use Rattle.std.specs.Prelude.{ℕ, Bool, ◌-◌, ◌&&◌, nat_lt, nat_le, if◌then◌else◌, List, [], ◌∷◌, ◌++◌, Option, Some, None, option_to_list, Result, Ok, Err}
use Rattle.dwarf.specs.declared.fault.Fault.{Fault}
use Rattle.dwarf.specs.declared.frame.FrameRow.{FrameRow}
use Rattle.dwarf.specs.declared.frame.FrameRules.{FrameRules}
use Rattle.dwarf.specs.declared.frame_entries.FrameUnit.{FrameUnit}
use Rattle.dwarf.specs.declared.function_frames.FrameTable.{FrameTable}
use Rattle.dwarf.specs.Frames.{FramesOf, frames_of}
use Rattle.dwarf.specs.FrameUnits.{frame_units}

-- All functions.

-- a table as the code has it
abbrev pub frames_seen : FrameTable → FramesOf
frames_seen t = (t.from, t.size, t.rows.items)

-- what is read, if nothing is damaged
abbrev pub if_whole : {A : Type 0} → Result A Fault → Option A
if_whole (Ok a) = Some a
if_whole (Err f) = None

-- the frames of an entry: none if it is common to several functions, or damaged
abbrev pub table_of : List ℕ → FrameUnit → Option FramesOf
table_of section u = if u.is_common then None else if_whole (frames_of section u)

abbrev pub tables_in : List ℕ → List FrameUnit → List FramesOf
tables_in section [] = []
tables_in section (u ∷ us) = option_to_list (table_of section u) ++ tables_in section us

-- the entries of a section; none if their lengths don't fill it
abbrev pub whole_units : Result (List FrameUnit) Fault → List FrameUnit
whole_units (Ok us) = us
whole_units (Err f) = []

-- the frames of all functions of a section, in its order
abbrev pub tables_of : List ℕ → List FramesOf
tables_of section = tables_in section (whole_units (frame_units section))

-- The rules at an address.

-- an address lies in the function: it isn't before its first byte, and by fewer bytes after it than the function has
abbrev pub has : ℕ → FramesOf → Bool
has address f = nat_le f.0 address && nat_lt (address - f.0) f.1

-- of rows in the order of their addresses, the last that begins at the address or before it; before these rows, this held
abbrev pub rules_from : ℕ → Option FrameRules → List FrameRow → Option FrameRules
rules_from address held [] = held
rules_from address held (r ∷ rs) = if nat_le r.address address then rules_from address (Some r.rules) rs else held

-- the rules of the first function that has the address
abbrev pub rules_at : ℕ → List FramesOf → Option FrameRules
rules_at address [] = None
rules_at address (f ∷ fs) = if has address f then rules_from address None f.2 else rules_at address fs
