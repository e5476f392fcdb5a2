use Rattle.std.proofs.Common.{◌≡◌, [], drop}
use Rattle.line_tables.specs.Frames.{with_units}
use Rattle.line_tables.proofs.frames.section_frames.Given as goal

abbrev pub invariant-loop-unit : goal.invariant-loop-unit
invariant-loop-unit l = with_units l.section (drop l.unit-index l.unit-items) l.told.items ≡ with_units l.section l.unit-items []
