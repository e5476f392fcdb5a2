use Rattle.std.proofs.Common.{◌≡◌, ℕ, List}
use Rattle.std.specs.Io.KnownBytes.{Consumes}
use Rattle.gdb_packets.specs.Packets.{fed_all}
use Rattle.gdb_packets.specs.Reading.{reading}
use Rattle.gdb_target.specs.Serving.{Serves}
use Rattle.gdb_target.proofs.service.serving.Service.serve.Given as goal

abbrev pub invariant-loop : goal.invariant-loop
invariant-loop g l =
    (bytes : List ℕ) × Consumes (g.R.Read.remaining l.fn.input) (g.R.Read.remaining l.input) bytes
    × Serves bytes (reading l.initial.reader) l.fn.self l.self (g.W.Write.contents l.fn.output) (g.W.Write.contents l.output)
    × (reading l.reader ≡ fed_all bytes (reading l.initial.reader))
