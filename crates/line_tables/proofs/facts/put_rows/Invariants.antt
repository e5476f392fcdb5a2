use Rattle.std.proofs.Common.{◌≡◌, drop}
use Rattle.line_tables.specs.Passes.{put_rows}
use Rattle.line_tables.proofs.facts.put_rows.Given as goal

abbrev pub invariant-loop-row : goal.invariant-loop-row
invariant-loop-row l = put_rows l.are_ends (drop l.row-index l.rows) l.map.entries ≡ put_rows l.are_ends l.rows l.initial.map.entries
