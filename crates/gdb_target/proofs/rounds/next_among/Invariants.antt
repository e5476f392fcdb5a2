use Rattle.std.proofs.Common.{◌≡◌, ◌+◌, length, take}
use Rattle.xv_machine.specs.RoundParts.{events_of_parts}
use Rattle.gdb_target.proofs.rounds.next_among.Given as goal

abbrev pub invariant-loop-part : goal.invariant-loop-part
invariant-loop-part l = l.left + length (events_of_parts (take l.part-index l.parts)) ≡ l.within
