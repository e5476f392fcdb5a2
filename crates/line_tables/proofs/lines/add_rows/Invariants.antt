use Rattle.std.proofs.Common.{◌≡◌, drop}
use Rattle.std.specs.Prelude.{map}
use Rattle.line_tables.specs.Lines.{sequences_after, told_by, with_rows, with_sequences}
use Rattle.line_tables.proofs.lines.add_rows.Given as goal

abbrev pub invariant-loop-row : goal.invariant-loop-row
invariant-loop-row l = with_sequences l.lines.items (sequences_after l.sequence.items (map (told_by l.files.version l.files.files.items) (drop l.row-index l.rows)))
    ≡ with_rows l.files.version l.files.files.items l.rows l.initial.lines.items
