use Rattle.std.proofs.Common.{ap, ◌∙◌}
use Rattle.kcall_core.specs.Observers.{registers_of}
use Rattle.xv_machine.specs.Meaning.{Meaning}
use Rattle.xv_machine.proofs.machine.Machine.registers.Goals as goal

pub returns : goal.returns
returns c = c.registers.ensures ∙ ap (λ (m : Meaning). registers_of m.world.state c.args.pid) c.self.view_is
