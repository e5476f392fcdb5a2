use Rattle.std.proofs.Common.{rules}
use Rattle.console_core.proofs.rings.Console.push_out.Goals as goal

pub returns-clause-count : goal.returns-clause-count
returns-clause-count c = search rules

pub returns-clause-after : goal.returns-clause-after
returns-clause-after c = search rules
