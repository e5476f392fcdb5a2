use Rattle.dwarf.proofs.Prelude.{◌-◌, ◌≡◌, in_front, items}
use Rattle.dwarf.specs.Files.{field, field_next, fields, never}
use Rattle.dwarf.proofs.field.fields_at.Given as goal

abbrev pub invariant-loop : goal.invariant-loop
invariant-loop l = in_front l.fields.items (items never (field l.bytes) field_next (l.count - l.counter) l.next) ≡ fields l.bytes l.count l.at
