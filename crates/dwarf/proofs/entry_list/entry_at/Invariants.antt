use Rattle.dwarf.proofs.Prelude.{◌≡◌, drop, through}
use Rattle.dwarf.specs.Files.{entry, with_field}
use Rattle.dwarf.proofs.entry_list.entry_at.Given as goal

abbrev pub invariant-loop-field : goal.invariant-loop-field
invariant-loop-field l = through (with_field l.bytes l.is_wide) (drop l.field-index l.fields) l.entry ≡ entry l.bytes l.is_wide l.fields l.at
