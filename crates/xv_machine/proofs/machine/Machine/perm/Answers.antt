use Rattle.std.proofs.Common.{ap, ◌∙◌}
use Rattle.kcall_core.specs.Observers.{rights_at}
use Rattle.xv_machine.specs.Meaning.{Meaning}
use Rattle.xv_machine.proofs.machine.Machine.perm.Goals as goal

pub returns : goal.returns
returns c = c.perm.ensures c.self.inside.hart ∙ ap (λ (m : Meaning). rights_at m.world.state c.args.pid c.args.vpn) c.self.view_is
