use Rattle.dwarf.proofs.Prelude.{◌≡◌, None, drop}
use Rattle.dwarf.specs.AllFrames.{rules_from}
use Rattle.dwarf.proofs.all_frames.rules_in.Given as goal

abbrev pub invariant-loop-row : goal.invariant-loop-row
invariant-loop-row l = rules_from l.address l.held (drop l.row-index l.rows) ≡ rules_from l.address None l.rows
