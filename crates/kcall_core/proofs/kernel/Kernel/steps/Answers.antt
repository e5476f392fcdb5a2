use Rattle.kcall_core.proofs.Prelude.{arith, slot_now}
use Rattle.kcall_core.proofs.table.States.{running}
use Rattle.kcall_core.proofs.making.Series.{stretch, ended, fault-fewer, fault-tried, fault-ends, fault-done, all-made}
use Rattle.kcall_core.proofs.kernel.Kernel.steps.Goals as goal

pub steps-series-requires-clause-running : goal.steps-series-requires-clause-running
steps-series-requires-clause-running c =
    let r = running c.stretches.self c.stretches.hart c.stretches.invariant.whole.sound c.stretches.invariant.running in
    (slot_now c.stretches.self, r.is.runs)

pub overflow_add-made : goal.overflow_add-made
overflow_add-made c =
    let x = stretch c.args.most c.stretches.made c.args.self.now c.args.hart.now c.stretches.self c.stretches.hart c.stretches.invariant
    c.steps-series.result.made c.steps-series.result.stop c.steps-series.new.self c.steps-series.new.hart c.steps-series.ensures in
    omega (arith, c.ranges.most.fits, x.so_far.fits)

pub returns-in_default : goal.returns-in_default
returns-in_default c =
    let x = stretch c.args.most c.stretches.made c.args.self.now c.args.hart.now c.stretches.self c.stretches.hart c.stretches.invariant
    c.steps-series.result.made c.steps-series.result.stop c.steps-series.new.self c.steps-series.new.hart c.steps-series.ensures in
    ended x c.in_default.not-Fault

pub step_touching-requires-clause-whole : goal.step_touching-requires-clause-whole
step_touching-requires-clause-whole c =
    let x = stretch c.args.most c.stretches.made c.args.self.now c.args.hart.now c.stretches.self c.stretches.hart c.stretches.invariant
    c.steps-series.result.made c.steps-series.result.stop c.steps-series.new.self c.steps-series.new.hart c.steps-series.ensures in
    (fault-tried x c.in-Fault.cause c.in-Fault.is).stays.whole

pub step_touching-requires-clause-faulted : goal.step_touching-requires-clause-faulted
step_touching-requires-clause-faulted c =
    let x = stretch c.args.most c.stretches.made c.args.self.now c.args.hart.now c.stretches.self c.stretches.hart c.stretches.invariant
    c.steps-series.result.made c.steps-series.result.stop c.steps-series.new.self c.steps-series.new.hart c.steps-series.ensures in
    (fault-tried x c.in-Fault.cause c.in-Fault.is).faulted

pub overflow_add-made-in-Next : goal.overflow_add-made-in-Next
overflow_add-made-in-Next c =
    let x = stretch c.args.most c.stretches.made c.args.self.now c.args.hart.now c.stretches.self c.stretches.hart c.stretches.invariant
    c.steps-series.result.made c.steps-series.result.stop c.steps-series.new.self c.steps-series.new.hart c.steps-series.ensures in
    omega (arith, c.ranges.most.fits, fault-fewer x c.in-Fault.cause c.in-Fault.is)

pub stretches-preserved : goal.stretches-preserved
stretches-preserved c =
    let x = stretch c.args.most c.stretches.made c.args.self.now c.args.hart.now c.stretches.self c.stretches.hart c.stretches.invariant
    c.steps-series.result.made c.steps-series.result.stop c.steps-series.new.self c.steps-series.new.hart c.steps-series.ensures in
    fault-done x c.in-Fault.cause c.in-Fault.is c.step_touching.new.self c.step_touching.new.hart c.step_touching.result c.in-Next.is c.step_touching.ensures.stop
    (c.step_touching.ensures.done c.in-Next.is) (c.step_touching.ensures.running c.in-Next.is) (c.step_touching.ensures.between_calls c.in-Next.is)

pub returns-in_default-step_touching : goal.returns-in_default-step_touching
returns-in_default-step_touching c =
    let x = stretch c.args.most c.stretches.made c.args.self.now c.args.hart.now c.stretches.self c.stretches.hart c.stretches.invariant
    c.steps-series.result.made c.steps-series.result.stop c.steps-series.new.self c.steps-series.new.hart c.steps-series.ensures in
    fault-ends x c.in-Fault.cause c.in-Fault.is c.step_touching.new.self c.step_touching.new.hart c.step_touching.result c.in_default-step_touching.not-Next c.step_touching.ensures.stop
    (c.step_touching.ensures.stays c.in_default-step_touching.not-Next)

pub returns : goal.returns
returns c = all-made c.args.most c.stretches.made c.args.self.now c.args.hart.now c.stretches.self c.stretches.hart c.stretches.invariant c.stretches-test.false
