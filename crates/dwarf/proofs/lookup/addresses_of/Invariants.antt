use Rattle.dwarf.proofs.Prelude.{◌++◌, ◌≡◌, addresses, addresses_from, drop}
use Rattle.dwarf.proofs.lookup.addresses_of.Given as goal

abbrev pub invariant-loop-row : goal.invariant-loop-row
invariant-loop-row l = l.addresses.items ++ addresses_from l.file l.line l.is_told (drop l.row-index l.rows) ≡ addresses l.file l.line l.rows
