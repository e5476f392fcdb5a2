use Rattle.std.proofs.Common.{rules}
use Rattle.console_core.proofs.rings.Console.pull_line.Goals as goal

pub returns-in-Some-2-clause-count : goal.returns-in-Some-2-clause-count
returns-in-Some-2-clause-count c = search rules

pub returns-in-Some-2-clause-bytes : goal.returns-in-Some-2-clause-bytes
returns-in-Some-2-clause-bytes c = search rules

pub returns-in-Some-2-clause-after : goal.returns-in-Some-2-clause-after
returns-in-Some-2-clause-after c = search rules
