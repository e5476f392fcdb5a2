use Rattle.kcall_core.proofs.Prelude.{minus_one, refl}
use Rattle.kcall_core.proofs.making.CallAnswers.{done-at-once}
use Rattle.kcall_core.proofs.kernel.Kernel.refuse.Goals as goal

pub returns-clause-made : goal.returns-clause-made
returns-clause-made c call =
    done-at-once call minus_one refl c.requires.whole c.requires.running
    (record { sound = c.done.ensures.sound; kernel = c.done.ensures.kernel; state = c.done.ensures.state })
