use Rattle.kcall_core.proofs.Prelude.{IsSome, refl, subst, sym}
use Rattle.kcall_core.proofs.table.States.{slot-inside}
use Rattle.kcall_core.proofs.table.Stops.{now-has, live-place}
use Rattle.kcall_core.proofs.kernel.Kernel.running_slot.Goals as goal

pub returns-clause-within : goal.returns-clause-within
returns-clause-within c =
    let now = c.requires.sound.1.current c.in-Some.slot c.in-Some.is in
    slot-inside c.args.self.now c.requires.sound.0 c.requires.sound.1 c.in-Some.slot now.process now.is

pub returns-clause-live : goal.returns-clause-live
returns-clause-live c =
    let now = c.requires.sound.1.current c.in-Some.slot c.in-Some.is in
    live-place c.args.self.now c.in-Some.slot now.process now.is now.live

pub returns-clause-held : goal.returns-clause-held
returns-clause-held c = subst (λ o. IsSome o) (sym (c.requires.sound.1.current c.in-Some.slot c.in-Some.is).is) refl

pub returns-clause-there : goal.returns-clause-there
returns-clause-there c = now-has c.in-Some.slot c.requires.sound.1 c.in-Some.is
