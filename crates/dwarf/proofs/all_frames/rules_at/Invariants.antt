use Rattle.dwarf.proofs.Prelude.{◌≡◌, drop}
use Rattle.std.specs.Prelude.{map}
use Rattle.dwarf.specs.AllFrames.{frames_seen, rules_at}
use Rattle.dwarf.proofs.all_frames.rules_at.Given as goal

abbrev pub invariant-loop-table : goal.invariant-loop-table
invariant-loop-table l = rules_at l.address (map frames_seen (drop l.table-index l.tables)) ≡ rules_at l.address (map frames_seen l.tables)
