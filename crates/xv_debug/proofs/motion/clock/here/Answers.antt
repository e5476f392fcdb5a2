use Rattle.std.proofs.Common.{arith}
use Rattle.xv_debug.proofs.Along.{here-off, here-on}
use Rattle.xv_debug.proofs.motion.clock.here.Goals as goal

pub returns-then-place-recorded : goal.returns-then-place-recorded
returns-then-place-recorded c = here-on c.args.plan.now c.args.session.now.events c.args.far c.requires (omega (arith, c.if-place-recorded.true, c.at-place.ensures, c.recorded-recorded.ensures))

pub returns : goal.returns
returns c = here-off c.args.plan.now c.args.session.now.events c.args.far c.requires (omega (arith, c.if-place-recorded.false, c.at-place.ensures, c.recorded-recorded.ensures))
