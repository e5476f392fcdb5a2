-- What is told row by row: the lines and labels of a source, and the kernel calls.
use Rattle.std.specs.Prelude.{◌≡◌, ℕ, List, length, Option, None, Some, slice_get, pos}
use Rattle.std.specs.declared.boxed.Box.{Box}
use Rattle.kernel_calls.specs.Table.{entry_of}
use Rattle.kernel_calls.specs.declared.call.KernelCall.{KernelCall}
use Rattle.uasm_core.specs.LineTable.{LineTable, Label, table_seen}
use Rattle.uasm_core.specs.declared.source_lines.CodeLine.{CodeLine}
use Rattle.uasm_core.specs.declared.source_lines.SourceLines.{SourceLines}
use Rattle.xv_page.specs.Told.{laid}
use Rattle.xv_page.specs.declared.answers.Answer.{Answer}
use Rattle.xv_page.specs.declared.answers.Answer.TheVariants.{Done, Unknown}
use Rattle.xv_page.specs.declared.call_names.CallTold.{CallTold}
use Rattle.xv_page.specs.declared.lines.LineTold.{LineTold}
use Rattle.xv_page.specs.declared.lines.LabelTold.{LabelTold}

-- ---- rows

-- a row is told, if there is one; if not, what is told stays as it was
abbrev pub RowTold : {A : Type 0} → Option A → (before told : A) → Answer → Type 0
RowTold None before told answer = (answer ≡ Unknown) × (told ≡ before)
RowTold (Some row) before told answer = (answer ≡ Done) × (told ≡ row)

-- a row is told, and its name laid into the room, if there is a row; if not, both stay as they were
abbrev pub NamedRowTold : {A : Type 0} → Option (A × List ℕ) → (before after : A × List ℕ) → Answer → Type 0
NamedRowTold None before after answer = (answer ≡ Unknown) × (after ≡ before)
NamedRowTold (Some row) before after answer = (answer ≡ Done) × (after.0 ≡ row.0) × (after.1 ≡ laid row.1 before.1)

-- ---- the lines and labels of a source

-- the table in the host's place for one
abbrev pub table_kept : {Z : Type 0} → Option (Box SourceLines Z) → Option LineTable
table_kept None = None
table_kept (Some b) = Some (table_seen b.value)

-- the line at a place of a table
abbrev pub line_at : Option LineTable → (place : ℕ) → Option CodeLine
line_at None place = None
line_at (Some table) place = slice_get table.code place

abbrev pub line_told : CodeLine → LineTold
line_told row = record { line = row.line; start = row.start; end = row.end }

-- the label at a place of a table
abbrev pub label_at : Option LineTable → (place : ℕ) → Option Label
label_at None place = None
label_at (Some table) place = slice_get table.labels place

-- a label, and its name
abbrev pub label_told : Label → LabelTold × List ℕ
label_told label = (record { address = label.1; length = length label.0 }, label.0)

-- ---- the kernel calls

-- a call, and its name
abbrev pub call_told : KernelCall → CallTold × List ℕ
call_told call = (record { number = pos (entry_of call).number; length = length (entry_of call).name }, (entry_of call).name)
