use Rattle.std.proofs.Common.{◌∙◌, arith, sym}
use Rattle.xv_debug.proofs.Along.{ahead-few, along-other, along-runs}
use Rattle.xv_debug.proofs.motion.clock.coming_along.Goals as goal

pub recorded_at-next-requires : goal.recorded_at-next-requires
recorded_at-next-requires c = omega (arith, c.at.ensures, ahead-few c.args.plan.now.recorded c.args.session.now.events c.requires)

pub returns-then-is_run : goal.returns-then-is_run
returns-then-is_run c =
    let next = c.recorded_at-next in
    along-runs c.args.plan.now c.args.session.now.events c.args.session.now.machine.world c.at.result next.result.count _ next.result.event c.at.ensures c.requires
    (sym c.is_run.ensures ∙ c.if-is_run.true) (omega (arith, next.ensures.some, c.min.ensures, c.from.ensures)) (omega (arith, c.min.ensures, c.from.ensures))
    next.ensures.inside next.ensures.equal

pub returns : goal.returns
returns c =
    let next = c.recorded_at-next in
    along-other c.args.plan.now c.args.session.now.events c.args.session.now.machine.world c.at.result next.result.count next.result.event c.at.ensures c.requires
    (sym c.is_run.ensures ∙ c.if-is_run.false) next.ensures.some next.ensures.inside next.ensures.equal
