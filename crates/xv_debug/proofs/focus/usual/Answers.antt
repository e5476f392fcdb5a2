use Rattle.std.proofs.Common.{subst}
use Rattle.xv_machine.specs.Meaning.{Meaning}
use Rattle.xv_debug.specs.Focus.{IsRunningOr}
use Rattle.xv_debug.proofs.focus.usual.Goals as goal

pub returns : goal.returns
returns c = (
  c.last_step.result,
  c.last_step.ensures,
  subst (λ (m : Meaning). IsRunningOr m.world.turns.current c.last_step.result m.world.state c.running_or.result) c.machine.ensures.machine c.running_or.ensures,
)
