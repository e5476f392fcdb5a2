use Rattle.gdb_packets.proofs.Framed.{wrong-sums}
use Rattle.gdb_packets.proofs.laws.wrong_sums_show.Goals as goal

pub returns : goal.returns
returns c = wrong-sums
