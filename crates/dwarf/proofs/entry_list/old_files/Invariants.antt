use Rattle.dwarf.proofs.Prelude.{◌-◌, ◌≡◌, in_front, items, length}
use Rattle.dwarf.specs.Files.{entry_next, is_end, old_files, old_file}
use Rattle.dwarf.proofs.entry_list.old_files.Given as goal

abbrev pub invariant-loop : goal.invariant-loop
invariant-loop l = in_front l.entries.items (items (is_end l.bytes) (old_file l.bytes) entry_next (length l.bytes - l.counter) l.next) ≡ old_files l.bytes l.at
