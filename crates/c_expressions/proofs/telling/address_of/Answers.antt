use Rattle.std.proofs.Common.{append-nil, append_assoc, rules}
use Rattle.c_expressions.proofs.telling.address_of.Goals as goal

pub returns-in_ok-text-in-Memory : goal.returns-in_ok-text-in-Memory
returns-in_ok-text-in-Memory c = rw c.in-Memory.is (first_of (search (rules, append-nil), search (rules, append-nil, append_assoc)))
