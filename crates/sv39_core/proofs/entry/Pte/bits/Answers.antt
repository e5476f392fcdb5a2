use Rattle.std.proofs.Common.{rules}
use Rattle.sv39_core.proofs.entry.Pte.bits.Goals as goal

pub returns : goal.returns
returns c = search rules
