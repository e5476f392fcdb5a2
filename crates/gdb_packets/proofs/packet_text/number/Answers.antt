use Rattle.std.proofs.Common.{arith, ◌∙◌, sym}
use Rattle.gdb_packets.proofs.Pieces.{one_digit_more}
use Rattle.gdb_packets.proofs.packet_text.number.Goals as goal

pub loop-byte-preserved : goal.loop-byte-preserved
loop-byte-preserved c =
    c.loop-byte.invariant ∙ one_digit_more c.args.digits.now c.loop-byte.byte-index _ _ (omega arith) (sym c.with_digit.ensures ∙ c.in_ok-number.was)
