use Rattle.std.proofs.Common.{◌≡◌, ◌++◌, drop}
use Rattle.std.specs.Prelude.{map}
use Rattle.line_tables.specs.Frames.{told_by, with_rows}
use Rattle.line_tables.proofs.frames.add_rows.Given as goal

abbrev pub invariant-loop-row : goal.invariant-loop-row
invariant-loop-row l = l.told.items ++ map told_by (drop l.row-index l.rows) ≡ with_rows l.rows l.initial.told.items
