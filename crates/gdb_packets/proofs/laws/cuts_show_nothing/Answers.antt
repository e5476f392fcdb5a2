use Rattle.gdb_packets.proofs.Fed.{fed_all-append, pieces-append}
use Rattle.gdb_packets.proofs.laws.cuts_show_nothing.Goals as goal

pub returns : goal.returns
returns c = λ first second before. (fed_all-append first second before, pieces-append first second before)
