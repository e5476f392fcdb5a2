use Rattle.std.proofs.Common.{rules}
use Rattle.gdb_target.proofs.service.beginning.keys.Goals as goal

pub returns : goal.returns
returns g c = record { first = c.in_ok-keys.keys.items; none = c.in_ok-keys.ensures.none; keys_are = search rules }
