use Rattle.std.specs.Prelude.{◌≡◌, All, take}
use Rattle.trace_picture.specs.Row.{IsRowOf, pids_of}
use Rattle.trace_picture.proofs.chart.Chart.of.Given as goal

abbrev pub invariant-loop-pid : goal.invariant-loop-pid
invariant-loop-pid l = record {
  shown : All (λ row. IsRowOf row l.notes.items) l.rows.items;
  those : pids_of l.rows.items ≡ take l.pid-index l.pid-items;
}
