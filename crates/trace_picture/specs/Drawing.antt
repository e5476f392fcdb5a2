-- What is drawn of a trace.
use Rattle.std.specs.Prelude.{◌≡◌, ◌++◌, ℕ, List, All, ⊤, Option, None, Some}
use Rattle.std.specs.Io.KnownBytes.{Appends}
use Rattle.std.specs.Str.Lines.{lines}
use Rattle.trace_picture.specs.Remarks.{IsToldBy}
use Rattle.trace_picture.specs.Row.{AreNamed, IsRowOf, pids_of}
use Rattle.trace_picture.specs.Svg.{picture_of}
use Rattle.trace_picture.specs.declared.chart.Chart.{Chart}
use Rattle.trace_picture.specs.declared.chart.Row.{Row}
use Rattle.trace_picture.specs.declared.line.Told.{Told}

-- the picture of a text: of what its lines tell, with a row for each process that the notes name, which shows what it does
pub record IsPictureOf (text picture : List ℕ) : Type 0 where
  pub told : Told
  pub chart : Chart
  pub lines : IsToldBy (lines text) told
  pub notes : chart.notes.items ≡ told.notes.items
  pub rows : All (λ (row : Row). IsRowOf row told.notes.items) chart.rows.items
  pub named : AreNamed told.notes.items (pids_of chart.rows.items)
  pub is : picture ≡ picture_of chart told.remarks

-- of a trace, if it is known what it has, the picture is written after what was written before
abbrev pub Draws : (trace before after : Option (List ℕ)) → Type 0
Draws None before after = ⊤
Draws (Some text) before after = (picture : List ℕ) × IsPictureOf text picture × Appends before after picture

-- of a text of which some is not yet written, a part from the front was written, and this is left
abbrev pub Moves : (before after : Option (List ℕ)) → (old new : List ℕ) → Type 0
Moves before after old new = (part : List ℕ) × Appends before after part × (part ++ new ≡ old)
