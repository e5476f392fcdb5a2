use Rattle.std.proofs.Common.{arith}
use Rattle.debug_views.specs.NumberText.{number_text}
use Rattle.debug_views.proofs.Texts.{one_more}
use Rattle.debug_views.proofs.numbers.show_first.Goals as goal

pub loop-place-preserved : goal.loop-place-preserved
loop-place-preserved c =
    one_more (number_text c.args.size c.args.machine.now.world.state c.args.pid c.args.address) 0 c.loop-place.place c.loop-place.place
    _ _ _ (omega arith) c.loop-place.invariant c.in_ok-show_place.ensures
