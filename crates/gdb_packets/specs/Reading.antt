-- What the fields of a reader stand for.
use Rattle.gdb_packets.specs.Packets.{Reading}
use Rattle.gdb_packets.specs.declared.reader.PacketReader.{PacketReader}

abbrev pub reading : PacketReader → Reading
reading r = record { phase = r.phase; payload = r.payload.items; sum = r.sum }
