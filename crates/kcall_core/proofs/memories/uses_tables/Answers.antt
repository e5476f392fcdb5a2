use Rattle.kcall_core.proofs.Prelude.{rules}
use Rattle.kcall_core.proofs.memories.uses_tables.Goals as goal

pub returns-clause-same : goal.returns-clause-same
returns-clause-same c = search rules
