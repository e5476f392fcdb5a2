use Rattle.std.proofs.Common.{arith, append_assoc}
use Rattle.console_core.proofs.Echoes.{wipes_more}
use Rattle.console_core.proofs.keys.wipes.Goals as goal

pub loop-wiped-preserved : goal.loop-wiped-preserved
loop-wiped-preserved c = record { bytes = rw wipes_more (grind (arith, append_assoc)); count = omega arith }
