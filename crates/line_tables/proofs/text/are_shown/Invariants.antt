use Rattle.std.proofs.Common.{◌≡◌, drop}
use Rattle.line_tables.specs.Texts.{are_shown}
use Rattle.line_tables.proofs.text.are_shown.Given as goal

abbrev pub invariant-loop-byte : goal.invariant-loop-byte
invariant-loop-byte l = are_shown l.least (drop l.byte-index l.bytes) ≡ are_shown l.least l.bytes
