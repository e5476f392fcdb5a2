use Rattle.dwarf.proofs.Prelude.{◌-◌, ◌≡◌, in_front, items, length}
use Rattle.dwarf.specs.Files.{entry_next, is_end, old_directories, old_directory}
use Rattle.dwarf.proofs.entry_list.old_directories.Given as goal

abbrev pub invariant-loop : goal.invariant-loop
invariant-loop l = in_front l.entries.items (items (is_end l.bytes) (old_directory l.bytes) entry_next (length l.bytes - l.counter) l.next) ≡ old_directories l.bytes l.at
