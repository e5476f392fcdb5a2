use Rattle.std.proofs.Common.{◌≤◌, string_bytes}
use Rattle.debug_views.specs.Written.{Writes}
use Rattle.xv_debug.specs.PipeText.{ArePipes}
use Rattle.xv_debug.proofs.pipes.show_first.Given as goal

abbrev pub invariant-loop-number : goal.invariant-loop-number
invariant-loop-number l = record {
  told : Writes (string_bytes l.fn.answer) (string_bytes l.answer) (ArePipes l.machine.world l.number l.count);
  few : l.count ≤ l.number;
}
