use Rattle.std.proofs.Common.{rules}
use Rattle.console_core.proofs.rings.Console.committed.Goals as goal

pub returns-clause-value : goal.returns-clause-value
returns-clause-value c = search rules
