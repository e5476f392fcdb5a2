use Rattle.std.proofs.Common.{◌≡◌, take}
use Rattle.gdb_packets.specs.Packets.{checksum}
use Rattle.gdb_packets.proofs.framing.checksum.Given as goal

abbrev pub invariant-loop-byte : goal.invariant-loop-byte
invariant-loop-byte l = l.sum ≡ checksum (take l.byte-index l.bytes)
