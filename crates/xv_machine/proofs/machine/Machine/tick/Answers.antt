use Rattle.std.proofs.Common.{Bool, subst}
use Rattle.kernel_spec.specs.runs.Run as runs
use Rattle.kernel_spec.specs.waking.Wakes.{Promised}
use Rattle.xv_machine.specs.Notes.{ticked}
use Rattle.xv_machine.proofs.machine.Machine.tick.Goals as goal

pub returns-then-count_tick-clause-promised : goal.returns-then-count_tick-clause-promised
returns-then-count_tick-clause-promised c =
    subst (λ (b : Bool). Promised c.args.self.now.world runs.Tick (ticked b) c.count_tick.new.self.world) c.if-count_tick.true c.count_tick.ensures.promised

pub returns-clause-promised : goal.returns-clause-promised
returns-clause-promised c =
    subst (λ (b : Bool). Promised c.args.self.now.world runs.Tick (ticked b) c.count_tick.new.self.world) c.if-count_tick.false c.count_tick.ensures.promised
