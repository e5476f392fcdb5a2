use Rattle.dwarf.proofs.Prelude.{◌++◌, ◌≡◌, drop}
use Rattle.std.specs.Prelude.{map}
use Rattle.dwarf.specs.AllFrames.{frames_seen, tables_in}
use Rattle.dwarf.proofs.all_frames.tables_in.Given as goal

abbrev pub invariant-loop-unit : goal.invariant-loop-unit
invariant-loop-unit l = map frames_seen l.tables.items ++ tables_in l.section (drop l.unit-index l.units) ≡ tables_in l.section l.units
