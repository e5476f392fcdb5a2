use Rattle.std.proofs.Common.{◌≡◌, drop}
use Rattle.c_expressions.specs.Selection.{shape_in}
use Rattle.c_expressions.proofs.selection.shape_of.Given as goal

abbrev pub invariant-loop-row : goal.invariant-loop-row
invariant-loop-row l = shape_in l.kind (drop l.row-index l.rows) ≡ shape_in l.kind l.layouts.types.items
