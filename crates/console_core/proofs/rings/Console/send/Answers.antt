use Rattle.std.proofs.Common.{rules}
use Rattle.console_core.proofs.rings.Console.send.Goals as goal

pub returns-clause-byte : goal.returns-clause-byte
returns-clause-byte c = search rules

pub returns-clause-after : goal.returns-clause-after
returns-clause-after c = search rules
