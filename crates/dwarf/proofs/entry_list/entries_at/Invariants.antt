use Rattle.dwarf.proofs.Prelude.{◌-◌, ◌≡◌, in_front, items}
use Rattle.dwarf.specs.Files.{entries, entry, entry_next, never}
use Rattle.dwarf.proofs.entry_list.entries_at.Given as goal

abbrev pub invariant-loop : goal.invariant-loop
invariant-loop l = in_front l.entries.items (items never (entry l.bytes l.is_wide l.fields) entry_next (l.count - l.counter) l.next) ≡ entries l.bytes l.is_wide l.fields l.count l.at
