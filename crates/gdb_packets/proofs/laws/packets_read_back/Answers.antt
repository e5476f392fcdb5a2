use Rattle.gdb_packets.proofs.Framed.{reads-back}
use Rattle.gdb_packets.proofs.laws.packets_read_back.Goals as goal

pub returns : goal.returns
returns c = reads-back
