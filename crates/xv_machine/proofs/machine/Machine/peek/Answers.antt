use Rattle.std.proofs.Common.{ap, ◌∙◌}
use Rattle.kcall_core.specs.Observers.{byte_at}
use Rattle.xv_machine.specs.Meaning.{Meaning}
use Rattle.xv_machine.proofs.machine.Machine.peek.Goals as goal

pub returns : goal.returns
returns c = c.peek.ensures c.self.inside.hart ∙ ap (λ (m : Meaning). byte_at m.world.state c.args.pid c.args.address) c.self.view_is
