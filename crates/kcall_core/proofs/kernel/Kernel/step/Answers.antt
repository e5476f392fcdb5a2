use Rattle.kcall_core.proofs.Prelude.{slot_now}
use Rattle.kcall_core.proofs.table.States.{running}
use Rattle.kcall_core.proofs.making.TouchedSteps.{tried, plain-stop, plain-done, plain-stays, plain-same, made-before, stop-before, stays-there, runs-there}
use Rattle.kcall_core.proofs.kernel.Kernel.step.Goals as goal

pub step-requires-clause-running : goal.step-requires-clause-running
step-requires-clause-running c =
    let r = running c.args.self.now c.args.hart.now c.requires.whole.sound c.requires.running in
    (slot_now c.args.self.now, r.is.runs)

pub step_touching-requires-clause-whole : goal.step_touching-requires-clause-whole
step_touching-requires-clause-whole c =
    let t = tried c.args.self.now c.step.new.self c.args.hart.now c.step.new.hart c.step.result c.requires.whole c.requires.running c.step.ensures c.in-Fault.cause c.in-Fault.is in
    t.stays.whole

pub step_touching-requires-clause-faulted : goal.step_touching-requires-clause-faulted
step_touching-requires-clause-faulted c =
    let t = tried c.args.self.now c.step.new.self c.args.hart.now c.step.new.hart c.step.result c.requires.whole c.requires.running c.step.ensures c.in-Fault.cause c.in-Fault.is in
    t.faulted

pub returns-in-Fault-clause-stop : goal.returns-in-Fault-clause-stop
returns-in-Fault-clause-stop c =
    let t = tried c.args.self.now c.step.new.self c.args.hart.now c.step.new.hart c.step.result c.requires.whole c.requires.running c.step.ensures c.in-Fault.cause c.in-Fault.is in
    stop-before c.args.self.now _ c.args.hart.now c.step.new.hart c.step_touching.result c.requires.whole c.requires.running t.stays c.step_touching.ensures.stop

pub returns-in-Fault-clause-done : goal.returns-in-Fault-clause-done
returns-in-Fault-clause-done c next =
    let t = tried c.args.self.now c.step.new.self c.args.hart.now c.step.new.hart c.step.result c.requires.whole c.requires.running c.step.ensures c.in-Fault.cause c.in-Fault.is in
    made-before c.args.self.now _ c.args.hart.now c.step.new.hart c.step_touching.new.self c.step_touching.new.hart c.requires.whole c.requires.running t.stays (c.step_touching.ensures.done next)

pub returns-in-Fault-clause-stays : goal.returns-in-Fault-clause-stays
returns-in-Fault-clause-stays c other =
    let t = tried c.args.self.now c.step.new.self c.args.hart.now c.step.new.hart c.step.result c.requires.whole c.requires.running c.step.ensures c.in-Fault.cause c.in-Fault.is in
    stays-there c.args.self.now _ c.step_touching.new.self c.args.hart.now c.step.new.hart c.step_touching.new.hart (c.step_touching.ensures.stays other) t.stays

pub returns-in-Fault-clause-same : goal.returns-in-Fault-clause-same
returns-in-Fault-clause-same c other =
    let t = tried c.args.self.now c.step.new.self c.args.hart.now c.step.new.hart c.step.result c.requires.whole c.requires.running c.step.ensures c.in-Fault.cause c.in-Fault.is in
    runs-there c.args.self.now _ c.step_touching.new.self c.args.hart.now c.step.new.hart c.step_touching.new.hart (c.step_touching.ensures.stays other) t.same

pub returns-in_default : goal.returns-in_default
returns-in_default c = record {
  stop = plain-stop c.args.self.now c.step.new.self c.args.hart.now c.step.new.hart c.step.result c.requires.whole c.requires.running c.step.ensures c.in_default.not-Fault;
  done = plain-done c.args.self.now c.step.new.self c.args.hart.now c.step.new.hart c.step.result c.requires.whole c.requires.running c.step.ensures c.requires.between_calls;
  stays = plain-stays c.args.self.now c.step.new.self c.args.hart.now c.step.new.hart c.step.result c.requires.whole c.requires.running c.step.ensures;
  same = plain-same c.args.self.now c.step.new.self c.args.hart.now c.step.new.hart c.step.result c.requires.whole c.requires.running c.step.ensures;
}
