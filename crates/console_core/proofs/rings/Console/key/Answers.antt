use Rattle.std.proofs.Common.{rules}
use Rattle.console_core.proofs.rings.Console.key.Goals as goal

pub returns-in-Kill-clause-after : goal.returns-in-Kill-clause-after
returns-in-Kill-clause-after c = search rules

pub returns-in-Kill-clause-echo : goal.returns-in-Kill-clause-echo
returns-in-Kill-clause-echo c = search rules
