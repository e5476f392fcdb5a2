use Rattle.std.proofs.Common.{option_map, arith}
use Rattle.xv_machine.specs.Events.{outcome_of}
use Rattle.xv_debug.proofs.Stretched.{ran-none, ran-more}
use Rattle.xv_debug.proofs.motion.running.step.Goals as goal

pub runs-init : goal.runs-init
runs-init g c = (omega arith, ran-none c.args.session.now)

pub runs-preserved : goal.runs-preserved
runs-preserved g c =
    let runs = c.in-Ok.runs in (
      omega (arith, c.runs.invariant.0, c.runs-test.true, c.at_once.ensures.within, c.in-Ok.ensures.within),
      ran-more c.runs.sent runs.sent (option_map outcome_of c.runs.last) (outcome_of runs.last) c.args.session.now c.runs.session
          c.send_stretch.new.session c.in-Ok.ensures.forth c.runs.invariant.1 c.in-Ok.ensures.ran,
    )
