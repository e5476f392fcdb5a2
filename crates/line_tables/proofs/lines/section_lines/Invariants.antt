use Rattle.std.proofs.Common.{◌≡◌, [], drop}
use Rattle.dwarf.specs.Items.{through}
use Rattle.line_tables.specs.Lines.{with_unit}
use Rattle.line_tables.proofs.lines.section_lines.Given as goal

abbrev pub invariant-loop-unit : goal.invariant-loop-unit
invariant-loop-unit l = through (with_unit l.section) (drop l.unit-index l.unit-items) l.lines.items ≡ through (with_unit l.section) l.unit-items []
