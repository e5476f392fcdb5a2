use Rattle.kcall_core.proofs.Prelude.{ℕ, ap, IsTree, refl, root_of, subst, sym}
use Rattle.kcall_core.proofs.memory.Unwatched.{unwatched-row}
use Rattle.kcall_core.proofs.memories.Memories.steps_unwatched.Goals as goal

pub steps_unwatched-requires-clause-tree : goal.steps_unwatched-requires-clause-tree
steps_unwatched-requires-clause-tree c =
    let r = c.requires.running.1 in
    let tree = (c.requires.sound.memories c.requires.running.0 r.memory r.is).space.tree in
    subst (λ (x : ℕ). IsTree c.args.self.now.ram x) (sym (ap root_of r.root)) tree

pub returns-clause-row : goal.returns-clause-row
returns-clause-row c slot r =
    let e = c.steps_unwatched.ensures in
    unwatched-row c.args.watch.now.addresses.now c.args.watch.now.bytes.now c.args.self.now _ slot c.args.hart.now c.steps_unwatched.new.hart c.steps_unwatched.result
    c.requires.sound r e.root e.fault_address e.fits refl refl refl e.row
