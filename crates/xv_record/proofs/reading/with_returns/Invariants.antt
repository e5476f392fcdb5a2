use Rattle.std.proofs.Common.{◌≡◌, flat_map, take}
use Rattle.xv_record.specs.Reading.{with_return}
use Rattle.xv_record.proofs.reading.with_returns.Given as goal

abbrev pub invariant-loop-byte : goal.invariant-loop-byte
invariant-loop-byte l = l.bytes.items ≡ flat_map with_return (take l.byte-index l.text)
