use Rattle.std.proofs.Common.{◌≡◌, length}
use Rattle.line_tables.specs.NamesText.{with_names}
use Rattle.line_tables.proofs.names_text.add_names.Given as goal

abbrev pub invariant-names : goal.invariant-names
invariant-names l = with_names l.names l.rest l.text.items ≡ with_names l.names l.all l.initial.text.items

abbrev pub decreases-names : goal.decreases-names
decreases-names l = length l.rest
