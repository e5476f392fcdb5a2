use Rattle.gdb_packets.proofs.NumbersBack.{numbers-back}
use Rattle.gdb_packets.proofs.laws.numbers_read_back.Goals as goal

pub returns : goal.returns
returns c = numbers-back
