use Rattle.std.proofs.Common.{◌≡◌, ◌++◌, ◌≤◌, drop, replicate}
use Rattle.trace_picture.specs.Row.{shown, states}
use Rattle.trace_picture.specs.declared.row.State.TheVariants.{Absent}
use Rattle.trace_picture.proofs.row.phases.Given as goal

abbrev pub invariant-loop-note : goal.invariant-loop-note
invariant-loop-note l = record {
  told : shown l.row.items ++ (replicate l.last.events l.last.state ++ states l.pid l.last.state (drop l.note-index l.notes)) ≡ states l.pid Absent l.notes;
  few : l.last.events ≤ l.note-index;
}
