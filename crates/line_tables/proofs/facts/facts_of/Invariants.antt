use Rattle.std.proofs.Common.{◌≡◌, ◌++◌, drop}
use Rattle.line_tables.specs.Facts.{changes}
use Rattle.line_tables.proofs.facts.facts_of.Given as goal

abbrev pub invariant-loop-entry : goal.invariant-loop-entry
invariant-loop-entry l = l.facts.items ++ changes l.last (drop l.entry-index l.entry-items) ≡ changes l.fn.known l.entry-items
