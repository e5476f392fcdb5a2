use Rattle.debug_info.proofs.Prelude.{[], ◌≡◌}
use Rattle.debug_info.proofs.tables.read_tables.Given as goal

abbrev pub invariant-loop-unit : goal.invariant-loop-unit
invariant-loop-unit l = l.unit-items ≡ [] → l.tables.entries.items ≡ []
