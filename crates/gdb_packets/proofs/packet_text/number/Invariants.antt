use Rattle.std.proofs.Common.{◌≡◌, drop, Some}
use Rattle.gdb_packets.specs.Digits.{number_on}
use Rattle.gdb_packets.proofs.packet_text.number.Given as goal

abbrev pub invariant-loop-byte : goal.invariant-loop-byte
invariant-loop-byte l = number_on (Some 0) l.digits ≡ number_on (Some l.number) (drop l.byte-index l.digits)
