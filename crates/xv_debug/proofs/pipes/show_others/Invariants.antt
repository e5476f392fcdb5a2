use Rattle.std.proofs.Common.{take, flat_map}
use Rattle.std.specs.Fmt.{HasWritten, IsPlainFormatter}
use Rattle.xv_debug.specs.PipeText.{holder_behind}
use Rattle.xv_debug.proofs.pipes.show_others.Given as goal

abbrev pub invariant-loop-pid : goal.invariant-loop-pid
invariant-loop-pid g l = IsPlainFormatter l.fn.f → HasWritten g.W.Write.write_str_gives l.fn.f (flat_map holder_behind (take l.pid-index l.pids)) l.f
