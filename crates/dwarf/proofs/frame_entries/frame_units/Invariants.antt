use Rattle.dwarf.proofs.Prelude.{◌-◌, ◌≡◌, in_front, items, leb, length}
use Rattle.dwarf.specs.FrameUnits.{frame_unit, unit_end}
use Rattle.dwarf.proofs.frame_entries.frame_units.Given as goal

abbrev pub invariant-loop : goal.invariant-loop
invariant-loop l = in_front l.found.items (items (leb (length l.section)) (frame_unit l.section) unit_end (length l.section - l.counter) l.at)
    ≡ items (leb (length l.section)) (frame_unit l.section) unit_end (length l.section) 0
