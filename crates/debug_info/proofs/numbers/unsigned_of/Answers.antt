use Rattle.debug_info.proofs.Prelude.{arith, sym}
use Rattle.std.proofs.Math.Nat.{mod-eq_of_lt}
use Rattle.debug_info.proofs.numbers.unsigned_of.Goals as goal

pub returns-then-highest : goal.returns-then-highest
returns-then-highest c = sym (mod-eq_of_lt (omega arith))
