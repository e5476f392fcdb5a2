use Rattle.std.proofs.Common.{◌≡◌, ◌++◌, drop}
use Rattle.trace_picture.specs.Row.{named}
use Rattle.trace_picture.proofs.chart.pids.Given as goal

abbrev pub invariant-loop-note : goal.invariant-loop-note
invariant-loop-note l = l.pids.items ++ named (drop l.note-index l.notes) ≡ named l.notes
