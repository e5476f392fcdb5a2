use Rattle.std.proofs.Common.{arith}
use Rattle.call_lines.specs.Line.{argument_at}
use Rattle.debug_views.proofs.Texts.{one_more}
use Rattle.call_lines.proofs.line.Lines.show_arguments.Goals as goal

pub loop-place-preserved : goal.loop-place-preserved
loop-place-preserved c =
    let lines = c.args.self.now in
    one_more (argument_at lines.shown lines.machine.now.world.state lines.pid c.args.call c.args.asked.now c.args.answered) 0 c.loop-place.place c.loop-place.place
    _ _ _ (omega arith) c.loop-place.invariant c.in_ok-show_at.ensures
