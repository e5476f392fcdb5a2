use Rattle.xv_debug.proofs.Along.{run_comes}
use Rattle.xv_debug.proofs.motion.searching.run_some.Goals as goal

pub run_once-requires-clause-next : goal.run_once-requires-clause-next
run_once-requires-clause-next c = run_comes c.args.way.now.plan.now c.args.session.now.events c.args.most c.args.session.now.machine.world c.requires.some c.requires.comes

pub run_once-requires-then-due-clause-next : goal.run_once-requires-then-due-clause-next
run_once-requires-then-due-clause-next c = run_comes c.args.way.now.plan.now c.args.session.now.events c.args.most c.args.session.now.machine.world c.requires.some c.requires.comes
