use Rattle.std.proofs.Common.{ap, sym, ◌∙◌, None}
use Rattle.kernel_spec.specs.views.State.{State}
use Rattle.kernel_spec.specs.runs.Run as runs
use Rattle.kernel_spec.proofs.Common.{none_from_is_some}
use Rattle.xv_machine.proofs.Runs.{now-frames, now-promised, tick-over, count-is, run-tick, lives-on-by}
use Rattle.xv_machine.proofs.machine.Machine.count_tick.Goals as goal

pub returns-then-is_some-clause-promised : goal.returns-then-is_some-clause-promised
returns-then-is_some-clause-promised c =
    let i = c.self.inside in
    tick-over i.kernel i.hart i.halted i.trace c.args.self.now c.self.view_is c.self.invariant.whole (sym c.is_some.ensures ∙ c.if-is_some.true)

pub invariant_of-self : goal.invariant_of-self
invariant_of-self c =
    let i = c.self.inside in
    record {
      whole = c.tick.ensures.whole;
      halted = lives-on-by i.kernel c.tick.new.self i.hart c.tick.new.hart i.halted
          (none_from_is_some i.halted (sym c.is_some.ensures ∙ c.if-is_some.false))
          (ap (λ (s : State). s.processes) c.tick.ensures.happens.1) c.self.invariant.halted;
      kept = c.self.invariant.kept;
    }

pub returns-clause-promised : goal.returns-clause-promised
returns-clause-promised c =
    let i = c.self.inside in
    let none = none_from_is_some i.halted (sym c.is_some.ensures ∙ c.if-is_some.false) in
    now-promised i.kernel i.hart i.halted i.trace c.args.self.now c.self.view_is runs.Tick c.tick.new.self c.tick.new.hart None runs.Ticked i.halted none none
    (run-tick i.kernel c.tick.new.self i.hart c.tick.new.hart c.tick.ensures.happens c.tick.ensures.wakes)

pub returns-clause-frames : goal.returns-clause-frames
returns-clause-frames c = count-is c.tick.new.self ∙ c.tick.ensures.frames ∙ now-frames c.self.inside.kernel c.self.inside.hart c.self.inside.halted c.self.inside.trace c.args.self.now c.self.view_is
