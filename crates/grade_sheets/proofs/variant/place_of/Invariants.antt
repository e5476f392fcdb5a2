use Rattle.grade_sheets.proofs.Prelude.{◌≡◌, min, sum, take}
use Rattle.grade_sheets.proofs.Marking.{most}
use Rattle.grade_sheets.proofs.variant.place_of.Given as goal

abbrev pub invariant-loop-byte : goal.invariant-loop-byte
invariant-loop-byte l = l.all ≡ min (sum (take l.byte-index l.name)) most
