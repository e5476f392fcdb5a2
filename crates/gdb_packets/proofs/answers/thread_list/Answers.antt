use Rattle.std.proofs.Common.{arith}
use Rattle.gdb_packets.specs.Answers.{one_more}
use Rattle.gdb_packets.proofs.Pieces.{one_piece_more}
use Rattle.gdb_packets.proofs.answers.thread_list.Goals as goal

pub loop-thread-preserved : goal.loop-thread-preserved
loop-thread-preserved c =
    one_piece_more one_more c.push_number.new.text.items c.loop-thread.text.items c.push_thread.new.text.items c.in-Some.others.now c.loop-thread.thread-index 0
    (omega arith) c.loop-thread.invariant c.in_ok-push_thread.ensures
