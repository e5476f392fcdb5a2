use Rattle.std.proofs.Common.{◌≡◌, drop}
use Rattle.c_expressions.specs.Selection.{member_in}
use Rattle.c_expressions.proofs.selection.member_of.Given as goal

abbrev pub invariant-loop-row : goal.invariant-loop-row
invariant-loop-row l = member_in l.owner l.name (drop l.row-index l.rows) ≡ member_in l.owner l.name l.layouts.members.items
