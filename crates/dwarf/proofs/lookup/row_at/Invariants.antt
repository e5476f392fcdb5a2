use Rattle.dwarf.proofs.Prelude.{◌≡◌, drop, row_at, row_from}
use Rattle.dwarf.proofs.lookup.row_at.Given as goal

abbrev pub invariant-loop-next : goal.invariant-loop-next
invariant-loop-next l = row_from l.address l.row (drop l.next-index l.rest) ≡ row_at l.address l.rows
