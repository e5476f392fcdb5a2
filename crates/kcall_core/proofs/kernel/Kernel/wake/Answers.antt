use Rattle.kcall_core.proofs.Prelude.{refl}
use Rattle.kcall_core.proofs.table.Adopted.{woken-state, woken-sound}
use Rattle.kcall_core.proofs.kernel.Kernel.wake.Goals as goal

pub returns-clause-sound : goal.returns-clause-sound
returns-clause-sound c = woken-sound c.args.self.now _ c.args.channel c.wake.ensures refl

pub returns-clause-state : goal.returns-clause-state
returns-clause-state c = woken-state c.args.self.now _ c.args.channel c.wake.ensures refl
