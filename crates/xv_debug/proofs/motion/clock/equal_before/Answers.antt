use Rattle.std.proofs.Common.{◌-◌, arith}
use Rattle.xv_machine.specs.Events.{event_of}
use Rattle.xv_debug.proofs.Clocked.{up_to}
use Rattle.xv_debug.proofs.motion.clock.equal_before.Goals as goal

pub loop-init : goal.loop-init
loop-init c =
    let f = c.equal_from-found in
    let up = up_to (c.args.end - 1) c.args.end f.result.count (event_of f.result.event) c.args.session.now.events (omega arith) f.ensures.within (omega (arith, f.ensures.some, c.requires.behind))
    f.ensures.those in
    (f.ensures.some, up.0, up.1)

pub loop-preserved : goal.loop-preserved
loop-preserved c =
    let m = c.equal_from-more in
    let up = up_to (c.args.end - c.saturating_mul-wanted.result) c.args.end m.result.count (event_of m.result.event) c.args.session.now.events (omega arith) m.ensures.within
    (omega (arith, c.if-more-wanted.false, c.if-wanted-end.false)) m.ensures.those in
    (m.ensures.some, up.0, up.1)
