use Rattle.std.proofs.Common.{◌≡◌, map, take}
use Rattle.c_expressions.specs.Scopes.{name_of}
use Rattle.c_expressions.proofs.finding.names_of.Given as goal

abbrev pub invariant-loop-row : goal.invariant-loop-row
invariant-loop-row l = l.names.items ≡ map name_of (take l.row-index l.rows)
