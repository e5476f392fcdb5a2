use Rattle.dwarf.proofs.Prelude.{◌-◌, ◌≡◌, length, units, units_from, with_front}
use Rattle.dwarf.proofs.unit_list.units.Given as goal

abbrev pub invariant-loop : goal.invariant-loop
invariant-loop l = with_front l.found.items (units_from (length l.section - l.counter) l.section l.at) ≡ units l.section
