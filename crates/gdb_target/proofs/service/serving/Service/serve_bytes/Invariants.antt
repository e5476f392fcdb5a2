use Rattle.std.proofs.Common.{◌≡◌, take}
use Rattle.gdb_packets.specs.Packets.{fed_all}
use Rattle.gdb_packets.specs.Reading.{reading}
use Rattle.gdb_target.specs.Serving.{Serves}
use Rattle.gdb_target.proofs.service.serving.Service.serve_bytes.Given as goal

abbrev pub invariant-loop-byte : goal.invariant-loop-byte
invariant-loop-byte g l =
    Serves (take l.byte-index l.bytes) (reading l.fn.reader) l.fn.self l.self (g.W.Write.contents l.fn.output) (g.W.Write.contents l.output)
    × (reading l.reader ≡ fed_all (take l.byte-index l.bytes) (reading l.fn.reader))
