use Rattle.std.proofs.Common.{arith, []}
use Rattle.gdb_packets.specs.Packets.{escape}
use Rattle.gdb_packets.proofs.Pieces.{one_piece_more}
use Rattle.gdb_packets.proofs.framing.escaped.Goals as goal

pub loop-byte-preserved : goal.loop-byte-preserved
loop-byte-preserved c =
    one_piece_more escape [] _ _ c.args.payload.now c.loop-byte.byte-index 0 (omega arith) c.loop-byte.invariant c.in_ok-push_escaped.ensures
