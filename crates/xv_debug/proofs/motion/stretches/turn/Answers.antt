use Rattle.xv_debug.proofs.Prelude.{outcome_of}
use Rattle.xv_debug.proofs.Stretched.{ran-one}
use Rattle.xv_debug.proofs.motion.stretches.turn.Goals as goal

pub returns-clause-ran : goal.returns-clause-ran
returns-clause-ran c = ran-one (outcome_of c.in_ok-last.last) c.args.session.now c.send.new.self c.in_ok-last.ensures.sent
