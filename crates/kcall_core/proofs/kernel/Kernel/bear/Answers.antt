use Rattle.kcall_core.proofs.Prelude.{arith, each_of, held_in, IsSome, length-map, refl, rules, subst, sym}
use Rattle.kcall_core.proofs.table.States.{slot-inside}
use Rattle.kcall_core.proofs.processes.FreeSlot.{slot-for}
use Rattle.kcall_core.proofs.kernel.Kernel.bear.Goals as goal

pub pid-parent-requires-clause-within : goal.pid-parent-requires-clause-within
pid-parent-requires-clause-within c =
    let now = c.requires.sound.1.current c.args.slot c.requires.slot in
    slot-inside c.args.self.now c.requires.sound.0 c.requires.sound.1 c.args.slot now.process now.is

pub pid-parent-requires-clause-held : goal.pid-parent-requires-clause-held
pid-parent-requires-clause-held c = subst (λ o. IsSome o) (sym (c.requires.sound.1.current c.args.slot c.requires.slot).is) refl

pub fork_into-requires-clause-there : goal.fork_into-requires-clause-there
fork_into-requires-clause-there c =
    let now = c.requires.sound.1.current c.args.slot c.requires.slot in
    c.requires.sound.1.lives c.args.slot now.process now.is now.live

pub fork_into-requires-clause-vacant : goal.fork_into-requires-clause-vacant
unfolding each_of
fork_into-requires-clause-vacant c =
    let k = c.args.self.now in
    let free = slot-for k c.requires.sound.0 c.requires.sound.1 c.in_ok-place.place (sym c.in_ok-place.ensures.value) in
    (omega (arith, free.below, c.requires.sound.1.memories.slots, length-map k.memories.each.items (held_in k.memories.ram)), c.requires.sound.1.vacant c.in_ok-place.place free.vacant)

pub returns-in_default-clause-refused : goal.returns-in_default-clause-refused
returns-in_default-clause-refused c = search rules
