use Rattle.std.proofs.Common.{◌≡◌, ◌+◌, drop}
use Rattle.gdb_packets.specs.Commands.{place_of}
use Rattle.gdb_packets.proofs.packet_text.place_of.Given as goal

abbrev pub invariant-loop-place : goal.invariant-loop-place
invariant-loop-place l = place_of l.byte l.text ≡ l.place + place_of l.byte (drop l.place l.text)
