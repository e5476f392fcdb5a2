use Rattle.std.proofs.Common.{◌≡◌, take}
use Rattle.gdb_packets.specs.Packets.{escaped}
use Rattle.gdb_packets.proofs.framing.escaped.Given as goal

abbrev pub invariant-loop-byte : goal.invariant-loop-byte
invariant-loop-byte l = l.text.items ≡ escaped (take l.byte-index l.payload)
