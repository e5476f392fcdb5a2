use Rattle.std.proofs.Common.{◌≡◌, length, take}
use Rattle.std.specs.List.{fold}
use Rattle.trace_picture.specs.Names.{room_with}
use Rattle.trace_picture.specs.Remarks.{program_at}
use Rattle.trace_picture.specs.declared.chart.Row.{Row}
use Rattle.trace_picture.proofs.label.names_room.Given as goal

abbrev pub invariant-loop-row : goal.invariant-loop-row
invariant-loop-row l = l.room ≡ fold (λ room (row : Row). room_with room (program_at l.remarks row.pid (length l.chart.notes.items))) 90 (take l.row-index l.chart.rows.items)
